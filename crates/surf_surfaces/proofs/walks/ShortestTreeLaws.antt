-- Laws of the tree of shortest walks.
use Rattle.surf_surfaces.proofs.Common.{◌≡◌, ◌≢◌, ℕ, ◌+◌, ◌<◌, ◌≤◌, true, List, [], ◌∷◌, ◌++◌, refl, sym, ap, ◌∙◌, subst, arith, Contains, Graph, joins, IsJoined, edge_between, IsGraphWalk, graph_walk_length, primal, Tree, IsTree, IsShortest, joins_turned, joins_ends, joined_below, Mesh, pair, edges, edge_count, ends, IsSurface, edge_length, edge_number, place_of, walk_length, ArePositive, cells_of, IsSimple, edge_between_is, walk-append, LeadsFrom, IsDistance}
use Rattle.surf_surfaces.specs.ShortestTree.{IsTight, IsShortestTree, ShortestTreesAreOne}
use Rattle.surf_surfaces.proofs.meshes.EdgeLaws.{place_of-among, among-contains}
use Rattle.surf_surfaces.proofs.meshes.CellLaws.{surfaces_are_cells, joins_from}
use Rattle.surf_surfaces.proofs.walks.GraphWalkLaws.{joined, walks_are_graph_walks}

-- a walk with one more step, over edge e
pub walk_over : (g : Graph) (len : ℕ → ℕ) → IsSimple g → (a : ℕ) (w : List ℕ) (u v e : ℕ) → IsGraphWalk g a w u →
    e < g.edges → joins g u v e ≡ true →
    IsGraphWalk g a (w ++ v ∷ []) v × (graph_walk_length g len a (w ++ v ∷ []) ≡ graph_walk_length g len a w + len e)
walk_over g len simple a w u v e walk e_in joins_e =
    let is_joined : IsJoined g u v = (e, e_in, joins_e) in
    let both = walk-append g len a w u (v ∷ []) v walk (is_joined, refl) in
    let between = edge_between_is g u v is_joined in
    let same : edge_between g u v ≡ e = simple u v (edge_between g u v) e between.0 e_in between.1 joins_e in
    let size : graph_walk_length g len a (w ++ v ∷ []) ≡ graph_walk_length g len a w + (len (edge_between g u v) + 0) = both.2 in
    (both.0, size ∙ ap (λ x. graph_walk_length g len a w + (len x + 0)) same ∙ omega arith)

module _ (mesh : Mesh) (lengths : List ℕ) (base : ℕ) (tree : Tree) (surface : IsSurface mesh)
    (positive : ArePositive mesh lengths) (short : IsShortestTree mesh lengths base tree) where
  -- a vertex that is not the root is not the base
  not_base : (v : ℕ) → v ≢ tree.root → v ≢ base
  not_base v ne e = ne (e ∙ sym short.root)

  -- the edge to a parent
  up_edge : (v : ℕ) → v < mesh.vertices → v ≢ tree.root →
      (tree.parent v < mesh.vertices) × (tree.up v < edge_count mesh)
      × (joins (primal (cells_of mesh)) v (tree.parent v) (tree.up v) ≡ true)
      × (tree.rank (tree.parent v) + edge_length lengths (tree.up v) ≡ tree.rank v)
  up_edge v l ne =
      let b = not_base v ne in
      let tight = short.tight v l b in
      let p = tree.parent v in
      let is_joined = joined mesh p v tight.0 in
      let number : tree.up v ≡ place_of (pair p v) (edges mesh) = short.up v l b in
      let at = place_of-among (pair p v) (edges mesh) (0, 0) (among-contains (pair p v) (edges mesh) tight.0) in (
        joined_below (primal (cells_of mesh)) (surfaces_are_cells mesh surface).complex.primal_ends p v is_joined,
        subst (λ e. e < edge_count mesh) (sym number) at.0,
        ap (joins (primal (cells_of mesh)) v p) number ∙ joins_turned (primal (cells_of mesh)) p v
            (place_of (pair p v) (edges mesh)) (joins_from (ends mesh (place_of (pair p v) (edges mesh))) p v at.1),
        ap (λ e. tree.rank p + edge_length lengths e) number ∙ tight.1,
      )

  pub shortest_is_tree : IsTree (primal (cells_of mesh)) tree
  shortest_is_tree = record {
    root_in = subst (λ v. v < mesh.vertices) (sym short.root) short.base_in;
    parent_in = λ v l ne. (up_edge v l ne).0;
    up_in = λ v l ne. (up_edge v l ne).1;
    up_joins = λ v l ne. (up_edge v l ne).2;
    rank_falls = λ v l ne. let up = up_edge v l ne in let some = positive (tree.up v) up.1 in omega (arith, up.3, some);
  }

  -- the distance at one end of an edge is no more than that at the other with the edge
  step_bound : (u v e : ℕ) → u < mesh.vertices → v < mesh.vertices → e < edge_count mesh →
      joins (primal (cells_of mesh)) u v e ≡ true → tree.rank v ≤ tree.rank u + edge_length lengths e
  step_bound u v e u_in v_in e_in joins_e =
      let reached = (short.distances u u_in).reached in
      longer reached.0 reached.1 reached.2
    where
      longer : (walk : List ℕ) → LeadsFrom mesh base u walk → walk_length mesh lengths walk ≡ tree.rank u →
          tree.rank v ≤ tree.rank u + edge_length lengths e
      longer [] leads size = absurd (omega (arith, leads.is_walk.begins))
      longer (a ∷ rest) leads size =
          let g = primal (cells_of mesh) in
          let walks = walks_are_graph_walks mesh surface in
          let at : IsGraphWalk g a rest u = subst (IsGraphWalk g a rest) leads.ends (walks.walk a rest leads.is_walk) in
          let more = walk_over g (edge_length lengths) (surfaces_are_cells mesh surface).one_edge a rest u v e at e_in
          joins_e in
          let a_in : a < mesh.vertices = subst (λ n. n < mesh.vertices) (sym leads.begins) short.base_in in
          let back = walks.from_walk a v (rest ++ v ∷ []) a_in more.0 in
          let bound : tree.rank v ≤ walk_length mesh lengths (a ∷ (rest ++ v ∷ [])) =
          (short.distances v v_in).least (a ∷ (rest ++ v ∷ []))
          (record { is_walk = back.0; begins = leads.begins; ends = back.1 }) in
          let old = walks.sizes lengths a rest leads.is_walk in
          let new = walks.sizes lengths a (rest ++ v ∷ []) back.0 in
          omega (arith, bound, old, new, more.1, size)

  pub shortest_is_shortest : IsShortest (primal (cells_of mesh)) (edge_length lengths) tree
  shortest_is_shortest = record {
    none_at_root =
        let walks = walks_are_graph_walks mesh surface in
        let here = walks.from_walk base base [] short.base_in refl in
        let bound : tree.rank base ≤ walk_length mesh lengths (base ∷ []) =
        (short.distances base short.base_in).least (base ∷ []) (record { is_walk = here.0; begins = refl; ends = refl })
        in
        let none : walk_length mesh lengths (base ∷ []) ≡ 0 = refl in
        ap tree.rank short.root ∙ omega (arith, bound, none);
    adds_up = λ v l ne. sym (up_edge v l ne).3;
    no_short_cut = λ e e_in.
        let both = (surfaces_are_cells mesh surface).complex.primal_ends e e_in in
        let over = joins_ends (primal (cells_of mesh)) e in (
          step_bound (ends mesh e).0 (ends mesh e).1 e both.0 both.1 e_in over,
          step_bound (ends mesh e).1 (ends mesh e).0 e both.1 both.0 e_in
              (joins_turned (primal (cells_of mesh)) (ends mesh e).0 (ends mesh e).1 e over),
        );
  }

-- there is one distance
distance_same : (mesh : Mesh) (lengths : List ℕ) (u v a b : ℕ) → IsDistance mesh lengths u v a →
    IsDistance mesh lengths u v b → a ≡ b
distance_same mesh lengths u v a b x y =
    let one = x.least y.reached.0 y.reached.1 in
    let two = y.least x.reached.0 x.reached.1 in
    omega (arith, one, two, x.reached.2, y.reached.2)

pub shortest_trees_are_one : ShortestTreesAreOne
shortest_trees_are_one mesh lengths base a b surface positive x y =
    record {
      ranks = ranks;
      parents = parents;
      ups =
          λ v l ne. x.up v l ne ∙ ap (λ p. edge_number mesh (p, v)) (parents v l ne) ∙ sym (y.up v l ne);
    }
  where
    ranks : (v : ℕ) → v < mesh.vertices → a.rank v ≡ b.rank v
    ranks v l = distance_same mesh lengths base v (a.rank v) (b.rank v) (x.distances v l) (y.distances v l)

    -- what is tight for one is for the other
    tight : (s t : Tree) → ((v : ℕ) → v < mesh.vertices → s.rank v ≡ t.rank v) → (u v : ℕ) → u < mesh.vertices →
        v < mesh.vertices → IsTight mesh lengths s.rank u v → IsTight mesh lengths t.rank u v
    tight s t same u v u_in v_in h =
        (h.0, ap (λ n. n + edge_length lengths (edge_number mesh (u, v))) (sym (same u u_in)) ∙ h.1 ∙ same v v_in)

    below : (u v : ℕ) → Contains (edges mesh) (pair u v) → u < mesh.vertices
    below u v h = joined_below (primal (cells_of mesh)) (surfaces_are_cells mesh surface).complex.primal_ends u v
        (joined mesh u v h)

    parents : (v : ℕ) → v < mesh.vertices → v ≢ base → a.parent v ≡ b.parent v
    parents v l ne =
        let ta = x.tight v l ne in
        let tb = y.tight v l ne in
        let one = x.least (b.parent v) v l ne
        (tight b a (λ w m. sym (ranks w m)) (b.parent v) v (below (b.parent v) v tb.0) l tb) in
        let two = y.least (a.parent v) v l ne (tight a b ranks (a.parent v) v (below (a.parent v) v ta.0) l ta) in
        omega (arith, one, two)
