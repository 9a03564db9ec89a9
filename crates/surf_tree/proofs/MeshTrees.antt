-- What is grown over the edges of a surface is its tree of shortest walks.
use Rattle.std.proofs.Common.{◌≡◌, ◌≢◌, ℕ, ◌+◌, ◌*◌, ◌^◌, ◌<◌, ◌≤◌, true, List, [], ◌∷◌, refl, sym, ap, ◌∙◌, subst, arith, get_or, Contains, ne_eqb, eq-eqb}
use Rattle.surf_surfaces.proofs.Common.{joins, IsGraphWalk, graph_walk_length, primal, joins_turned, Mesh, pair, edges, edge_count, ends, IsSurface, edge_length, edge_number, place_of, walk_length, cells_of, IsShortestTree, LeadsFrom, IsDistance}
use Rattle.surf_surfaces.proofs.meshes.EdgeLaws.{place_of-among, place_of-ends, among-contains, contains_from_among}
use Rattle.surf_surfaces.proofs.meshes.CellLaws.{surfaces_are_cells, ends_below, joins_from, joins_is}
use Rattle.surf_surfaces.proofs.walks.GraphWalkLaws.{walks_are_graph_walks, from_joined}
use Rattle.surf_lengths.specs.Lengths.{longest}
use Rattle.surf_base.specs.Tables.{nobody}
use Rattle.surf_tree.specs.Tables.{TreeTables, AreTreeTables, tree_of}
use Rattle.surf_tree.specs.Grown.{IsGrown}
use Rattle.surf_tree.proofs.SearchWords.{IsGrownIn}

-- an edge of the graph between two vertices has their edge number
edge_of_joins : (mesh : Mesh) → IsSurface mesh → (u v e : ℕ) → e < edge_count mesh → joins (primal (cells_of mesh)) u v e ≡ true → e ≡ edge_number mesh (u, v)
edge_of_joins mesh surface u v e l on =
    let same : ends mesh e ≡ pair u v = joins_is (ends mesh e) u v (ends_below mesh surface.is_mesh e l).0 on in
    sym (place_of-ends mesh e l) ∙ ap (λ p. place_of p (edges mesh)) same

-- an edge of the mesh joins its two ends in the graph
number_joins : (mesh : Mesh) (u v : ℕ) → Contains (edges mesh) (pair u v) → (edge_number mesh (u, v) < edge_count mesh) × (joins (primal (cells_of mesh)) v u (edge_number mesh (u, v)) ≡ true)
number_joins mesh u v has =
    let at = place_of-among (pair u v) (edges mesh) (0, 0) (among-contains (pair u v) (edges mesh) has) in
    let e = place_of (pair u v) (edges mesh) in
    (at.0, joins_turned (primal (cells_of mesh)) u v e (joins_from (ends mesh e) u v at.1))

module _ (mesh : Mesh) (lengths : List ℕ) (t : TreeTables) (surface : IsSurface mesh) (grown : IsGrownIn (primal (cells_of mesh)) (edge_length lengths) t) where
  -- the edge to a parent
  to_parent : (v : ℕ) → v < mesh.vertices → v ≢ t.base →
      (joins (primal (cells_of mesh)) (get_or t.parents v 0) v (get_or t.ups v 0) ≡ true) × (get_or t.ups v 0 < edge_count mesh) × (get_or t.distances (get_or t.parents v 0) 0 + edge_length lengths (get_or t.ups v 0) ≡ get_or t.distances v 0)
  to_parent v l ne =
      let at = ((grown.parents v l).tight (grown.has_parent v l ne)).1 in
      (joins_turned (primal (cells_of mesh)) v (get_or t.parents v 0) (get_or t.ups v 0) at.joined, at.edge_in, at.is)

  up_is : (v : ℕ) → v < mesh.vertices → v ≢ t.base → get_or t.ups v 0 ≡ edge_number mesh (get_or t.parents v 0, v)
  up_is v l ne = let p = to_parent v l ne in edge_of_joins mesh surface (get_or t.parents v 0) v (get_or t.ups v 0) p.1 p.0

  is_distance : (v : ℕ) → v < mesh.vertices → IsDistance mesh lengths t.base v (get_or t.distances v 0)
  is_distance v l =
      let at = grown.distances (surfaces_are_cells mesh surface).one_edge v l in
      let walks = walks_are_graph_walks mesh surface in
      let w = at.0.0 in
      let back = walks.from_walk t.base v w grown.tree.root_in at.0.1 in
      record {
        reached = (t.base ∷ w, record { is_walk = back.0; begins = refl; ends = back.1 }, walks.sizes lengths t.base w back.0 ∙ at.0.2);
        least = λ walk leads. least walk leads;
      }
    where
      least : (walk : List ℕ) → LeadsFrom mesh t.base v walk → get_or t.distances v 0 ≤ walk_length mesh lengths walk
      least [] leads = absurd (omega (arith, leads.is_walk.begins))
      least (a ∷ rest) leads =
          let walks = walks_are_graph_walks mesh surface in
          let g = primal (cells_of mesh) in
          let is : IsGraphWalk g a rest v = subst (IsGraphWalk g a rest) leads.ends (walks.walk a rest leads.is_walk) in
          let size = walks.sizes lengths a rest leads.is_walk ∙ ap (λ b. graph_walk_length g (edge_length lengths) b rest) leads.begins in
          let bound = (grown.distances (surfaces_are_cells mesh surface).one_edge v l).1 rest (subst (λ b. IsGraphWalk g b rest v) leads.begins is) in
          omega (arith, bound, size)

  grown_shortest : IsShortestTree mesh lengths t.base (tree_of t)
  grown_shortest = record {
    base_in = grown.tree.root_in;
    root = refl;
    distances = is_distance;
    tight = λ v l ne.
        let p = to_parent v l ne in
        let has = contains_from_among (pair (get_or t.parents v 0) v) (edges mesh) (from_joined mesh surface.is_mesh (get_or t.parents v 0) v (get_or t.ups v 0, p.1, p.0)) in
        (has, ap (λ e. get_or t.distances (get_or t.parents v 0) 0 + edge_length lengths e) (sym (up_is v l ne)) ∙ p.2);
    least = λ u v l ne h.
        let e = number_joins mesh u v h.0 in
        (grown.parents v l).least u (edge_number mesh (u, v)) (record { edge_in = e.0; joined = e.1; is = h.1 });
    up = up_is;
  }

  pub grown_here : AreTreeTables mesh t → mesh.vertices ≤ 2 ^ 29 → IsGrown mesh lengths t.base t
  grown_here made few = record {
    made = made;
    base_is = refl;
    shortest = grown_shortest;
    base_alone = rw (eq-eqb (get_or t.parents t.base 0) nobody grown.base_parent) refl;
    parents = λ v l ne. rw (ne_eqb (get_or t.parents v 0) nobody (grown.has_parent v l ne)) refl;
    parent_edges = λ v l ne. rw (ne_eqb (get_or t.parents v 0) nobody (grown.has_parent v l ne)) refl;
    flags = grown.flags;
    fits = λ v l. let f : get_or t.distances v 0 + longest ≤ mesh.vertices * longest = grown.fits v l in omega (arith, f, few);
  }
