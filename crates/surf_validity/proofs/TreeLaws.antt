-- Valid rows are a tree of shortest walks.
use Rattle.surf_surfaces.proofs.Common.{unwrap_or, ◌≡◌, ◌≢◌, ℕ, ◌+◌, ◌<◌, true, not, ◌&&◌, eqb, List, refl, sym, ◌∙◌, arith, Option, Some, None, ne_eqb, eq-eqb, eqb_comm, any_below-same, primal, joins, IsTree, IsShortest, in_tree, joins_turned, joined_below, Mesh, pair, edges, edge_count, ends, IsSurface, edge_length, edge_number, place_of, ArePositive, cells_of}
use Rattle.surf_surfaces.proofs.meshes.EdgeLaws.{place_of-among, among-contains, ends-eq}
use Rattle.surf_surfaces.proofs.meshes.CellLaws.{surfaces_are_cells, joins_from}
use Rattle.surf_surfaces.proofs.walks.GraphWalkLaws.{joined}
use Rattle.surf_validity.specs.Rows.{TreeRows}
use Rattle.surf_validity.specs.Valid.{distance_at, parent_at, certified_tree, IsParent, AddsUp, IsTreeValid, leads_up, is_parent_edge}

module _ (mesh : Mesh) (lengths : List ℕ) (rows : TreeRows) (surface : IsSurface mesh) where
  -- the edge between a vertex and the parent that is given
  pub record LeadsUp (v p : ℕ) : Type 0 where
    pub parent_in : p < mesh.vertices
    pub edge_in : edge_number mesh (p, v) < edge_count mesh
    pub over : joins (primal (cells_of mesh)) v p (edge_number mesh (p, v)) ≡ true
    pub sum : distance_at rows v ≡ distance_at rows p + edge_length lengths (edge_number mesh (p, v))

  leads : (v : ℕ) (o : Option ℕ) → v ≢ rows.base → IsParent mesh rows.base v o → AddsUp mesh lengths rows v o →
      LeadsUp v (unwrap_or o 0)
  leads v None ne is adds = absurd (ne is)
  leads v (Some p) ne is adds =
      let g = primal (cells_of mesh) in
      let e = place_of (pair p v) (edges mesh) in
      let at = place_of-among (pair p v) (edges mesh) (0, 0) (among-contains (pair p v) (edges mesh) is.1) in
      record {
        parent_in = joined_below g (surfaces_are_cells mesh surface).complex.primal_ends p v (joined mesh p v is.1);
        edge_in = at.0;
        over = joins_turned g p v e (joins_from (ends mesh e) p v at.1);
        sum = adds;
      }

  module _ (positive : ArePositive mesh lengths) (base_in : rows.base < mesh.vertices)
      (valid : IsTreeValid mesh lengths rows) where
    up : (v : ℕ) → v < mesh.vertices → v ≢ rows.base → LeadsUp v (unwrap_or (parent_at rows v) 0)
    up v l ne = leads v (parent_at rows v) ne (valid.parents v l) (valid.distances v l)

    pub rows_are_tree : IsTree (primal (cells_of mesh)) (certified_tree mesh rows)
    rows_are_tree = record {
      root_in = base_in;
      parent_in = λ v l ne. (up v l ne).parent_in;
      up_in = λ v l ne. (up v l ne).edge_in;
      up_joins = λ v l ne. (up v l ne).over;
      rank_falls = λ v l ne.
          let it = up v l ne in
          let some = positive (edge_number mesh (unwrap_or (parent_at rows v) 0, v)) it.edge_in in
          let is = it.sum in
          omega (arith, is, some);
    }

    none_at_base : (o : Option ℕ) → IsParent mesh rows.base rows.base o → AddsUp mesh lengths rows rows.base o →
        distance_at rows rows.base ≡ 0
    none_at_base None is adds = adds
    none_at_base (Some p) is adds = absurd (is.0 refl)

    pub rows_are_shortest : IsShortest (primal (cells_of mesh)) (edge_length lengths) (certified_tree mesh rows)
    rows_are_shortest = record {
      none_at_root = none_at_base (parent_at rows rows.base) (valid.parents rows.base base_in)
          (valid.distances rows.base base_in);
      adds_up = λ v l ne. (up v l ne).sum;
      no_short_cut = valid.slack;
    }

    same_test : (e v : ℕ) (o : Option ℕ) → e < edge_count mesh → IsParent mesh rows.base v o →
        (not (eqb v rows.base) && eqb (edge_number mesh (unwrap_or o 0, v)) e) ≡ leads_up mesh e v o
    same_test e v None e_in is = rw (eq-eqb v rows.base is) refl
    same_test e v (Some p) e_in is =
        rw (ne_eqb v rows.base is.0)
        (eqb_comm (place_of (pair p v) (edges mesh)) e
        ∙ sym (ends-eq mesh (pair p v) e (among-contains (pair p v) (edges mesh) is.1) e_in))

    -- the edges of the tree are those between a vertex and its parent
    pub rows_in_tree : (e : ℕ) → e < edge_count mesh →
        in_tree (primal (cells_of mesh)) (certified_tree mesh rows) e ≡ is_parent_edge mesh rows e
    rows_in_tree e e_in =
        any_below-same mesh.vertices
        (λ v. not (eqb v rows.base) && eqb (edge_number mesh (unwrap_or (parent_at rows v) 0, v)) e)
        (λ v. leads_up mesh e v (parent_at rows v)) (λ v l. same_test e v (parent_at rows v) e_in (valid.parents v l))
