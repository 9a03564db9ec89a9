-- The loops that are chosen at a base are one list.
use Rattle.std.proofs.Common.{◌≡◌, ◌≢◌, ℕ, zero, suc, ◌<◌, true, false, not, ◌&&◌, eqb, List, ◌∷◌, ◌++◌, refl, sym, ap, ◌∙◌, arith, inl, inr, subst, eq-eqb}
use Rattle.surf_surfaces.proofs.Common.{cases_eq, ne_eqb, sorted, any_below-same, primal, dual, between, IsTree, tree_edge, Mesh, edge_count, ends, faces_of, IsSurface, ArePositive, cells_of, loop_walk, loop_length, Trees, AreChosenAt, comes_before, loop_at, loops_at, way_down, way_up}
use Rattle.surf_z2.proofs.Passing.{mapped_same}
use Rattle.surf_surfaces.specs.ShortestTree.{SameTree}
use Rattle.surf_surfaces.specs.Cotree.{tree_edges, is_left, precedes, IsHeaviestCotree, SameCotree}
use Rattle.surf_surfaces.specs.ChoiceLaws.{LoopsAreOne}
use Rattle.surf_surfaces.proofs.meshes.CellLaws.{surfaces_are_cells}
use Rattle.surf_surfaces.proofs.walks.ShortestTreeLaws.{shortest_is_tree, shortest_trees_are_one}
use Rattle.surf_surfaces.proofs.classes.CotreeLaws.{cotrees_are_one, between_inside}

module _ (mesh : Mesh) (lengths : List ℕ) (base : ℕ) (a b : Trees) (surface : IsSurface mesh)
    (positive : ArePositive mesh lengths) (x : AreChosenAt mesh lengths base a) (y : AreChosenAt mesh lengths base b) where
  pub trees_same : SameTree mesh base a.tree b.tree
  trees_same = shortest_trees_are_one mesh lengths base a.tree b.tree surface positive x.shortest y.shortest

  roots_same : a.tree.root ≡ b.tree.root
  roots_same = x.shortest.root ∙ sym y.shortest.root

  pub tree_is : IsTree (primal (cells_of mesh)) a.tree
  tree_is = shortest_is_tree mesh lengths base a.tree surface positive x.shortest

  sizes_same : (e : ℕ) → e < edge_count mesh → loop_length mesh lengths a.tree e ≡ loop_length mesh lengths b.tree e
  sizes_same e l =
      let both = (surfaces_are_cells mesh surface).complex.primal_ends e l in
      rw (trees_same.ranks (ends mesh e).0 both.0, trees_same.ranks (ends mesh e).1 both.1) refl

  ups_below : (e n : ℕ) → n < mesh.vertices →
      (not (eqb n a.tree.root) && eqb (a.tree.up n) e) ≡ (not (eqb n b.tree.root) && eqb (b.tree.up n) e)
  ups_below e n l = elim (cases_eq n base) [
    | inl is ↦
        let one : a.tree.root ≡ n = x.shortest.root ∙ sym is in
        let two : b.tree.root ≡ n = y.shortest.root ∙ sym is in
        grind (arith, one, two)
    | inr ne ↦ rw (roots_same, trees_same.ups n l ne) refl
  ]

  pub edges_same : (e : ℕ) → tree_edges mesh a.tree e ≡ tree_edges mesh b.tree e
  edges_same e = any_below-same mesh.vertices (λ n. not (eqb n a.tree.root) && eqb (a.tree.up n) e)
      (λ n. not (eqb n b.tree.root) && eqb (b.tree.up n) e) (λ n l. ups_below e n l)

  -- the second cotree over the first tree
  over_first : IsHeaviestCotree mesh lengths a.tree b.cotree
  over_first = record {
    joins_faces = y.heaviest.joins_faces;
    outside = λ e l on. edges_same e ∙ y.heaviest.outside e l on;
    heaviest = λ l c l_in left on_way. heavy l c l_in left on_way;
  }
    where
      faces_in : (l c : ℕ) → l < edge_count mesh → between b.cotree (faces_of mesh l).0 (faces_of mesh l).1 c ≡ true → c < edge_count mesh
      faces_in l c l_in on_way =
          let g = dual (cells_of mesh) in
          let both = (surfaces_are_cells mesh surface).complex.dual_ends l l_in in
          let inside = between_inside g b.cotree y.heaviest.joins_faces.spans (faces_of mesh l).0 (faces_of mesh l).1 c both.0 both.1 on_way in
          let (f, f_in, ne, is) = tree_edge g b.cotree c inside in
          subst (λ n. n < edge_count mesh) is (y.heaviest.joins_faces.spans.up_in f f_in ne)

      heavy : (l c : ℕ) → l < edge_count mesh → is_left mesh a.tree b.cotree l ≡ true →
          between b.cotree (faces_of mesh l).0 (faces_of mesh l).1 c ≡ true → precedes (loop_length mesh lengths a.tree) l c ≡ true
      heavy l c l_in left on_way =
          let left_too : is_left mesh b.tree b.cotree l ≡ true = rw (← edges_same l) left in
          let known : precedes (loop_length mesh lengths b.tree) l c ≡ true = y.heaviest.heaviest l c l_in left_too on_way in
          rw (sizes_same l l_in, sizes_same c (faces_in l c l_in on_way)) known

  pub cotrees_same : SameCotree mesh a.cotree b.cotree
  cotrees_same = cotrees_are_one mesh lengths a.tree a.cotree b.cotree surface tree_is x.heaviest over_first

  up_same : (steps n : ℕ) → n < mesh.vertices → way_up a.tree steps n ≡ way_up b.tree steps n
  up_same zero n l = refl
  up_same (suc steps) n l = elim (cases_eq n a.tree.root) [
    | inl is ↦
        let one : eqb n a.tree.root ≡ true = eq-eqb n a.tree.root is in
        let two : eqb n b.tree.root ≡ true = rw (← roots_same) one in
        rw (one, two) refl
    | inr ne ↦
        let one : eqb n a.tree.root ≡ false = ne_eqb n a.tree.root ne in
        let two : eqb n b.tree.root ≡ false = rw (← roots_same) one in
        let apart : n ≢ base = λ is. ne (is ∙ sym x.shortest.root) in
        let same : a.tree.parent n ≡ b.tree.parent n = trees_same.parents n l apart in
        let rest = up_same steps (a.tree.parent n) (tree_is.parent_in n l ne) in
        rw (one, two, ← same, rest) refl
  ]

  down_same : (steps n : ℕ) → n < mesh.vertices → way_down a.tree steps n ≡ way_down b.tree steps n
  down_same zero n l = refl
  down_same (suc steps) n l = elim (cases_eq n a.tree.root) [
    | inl is ↦
        let one : eqb n a.tree.root ≡ true = eq-eqb n a.tree.root is in
        let two : eqb n b.tree.root ≡ true = rw (← roots_same) one in
        rw (one, two) refl
    | inr ne ↦
        let one : eqb n a.tree.root ≡ false = ne_eqb n a.tree.root ne in
        let two : eqb n b.tree.root ≡ false = rw (← roots_same) one in
        let apart : n ≢ base = λ is. ne (is ∙ sym x.shortest.root) in
        let same : a.tree.parent n ≡ b.tree.parent n = trees_same.parents n l apart in
        let rest = down_same steps (a.tree.parent n) (tree_is.parent_in n l ne) in
        rw (one, two, ← same, rest) refl
  ]

  walks_same : (e : ℕ) → e < edge_count mesh → loop_walk mesh a.tree e ≡ loop_walk mesh b.tree e
  walks_same e l =
      let u : ℕ = (ends mesh e).0 in
      let v : ℕ = (ends mesh e).1 in
      let both = (surfaces_are_cells mesh surface).complex.primal_ends e l in
      let down : way_down a.tree (a.tree.rank u) u ≡ way_down b.tree (b.tree.rank u) u =
      ap (λ n. way_down a.tree n u) (trees_same.ranks u both.0) ∙ down_same (b.tree.rank u) u both.0 in
      let up : way_up a.tree (a.tree.rank v) v ≡ way_up b.tree (b.tree.rank v) v =
      ap (λ n. way_up a.tree n v) (trees_same.ranks v both.1) ∙ up_same (b.tree.rank v) v both.1 in
      ap (λ r. r ∷ way_down a.tree (a.tree.rank u) u ++ (v ∷ way_up a.tree (a.tree.rank v) v)) roots_same
      ∙ ap (λ xs. b.tree.root ∷ xs ++ (v ∷ way_up a.tree (a.tree.rank v) v)) down
      ∙ ap (λ ys. b.tree.root ∷ way_down b.tree (b.tree.rank u) u ++ (v ∷ ys)) up

  loops_same : (e : ℕ) → e < edge_count mesh → loop_at mesh lengths base a.tree e ≡ loop_at mesh lengths base b.tree e
  loops_same e l = rw (sizes_same e l, walks_same e l) refl

  left_same : (e : ℕ) → e < edge_count mesh → is_left mesh a.tree a.cotree e ≡ is_left mesh b.tree b.cotree e
  left_same e l = rw (edges_same e, cotrees_same.edges e l) refl

  lists_same : loops_at mesh lengths base a ≡ loops_at mesh lengths base b
  lists_same = ap (sorted comes_before) (mapped_same (is_left mesh a.tree a.cotree) (is_left mesh b.tree b.cotree)
      (loop_at mesh lengths base a.tree) (loop_at mesh lengths base b.tree) 0 (edge_count mesh)
      (λ k l. left_same k (omega (arith, l))) (λ k l. loops_same k (omega (arith, l))))

pub loops_are_one : LoopsAreOne
loops_are_one mesh lengths base a b surface positive x y = lists_same mesh lengths base a b surface positive x y
