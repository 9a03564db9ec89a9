-- The odd evidence is that of all trees that are chosen at a base.
use Rattle.surf_surfaces.proofs.Common.{◌≡◌, ℕ, zero, suc, ◌<◌, Bool, true, false, not, ◌&&◌, cond, eqb, List, length, get_or, refl, sym, ap, ◌∙◌, arith, inl, inr, cases_eq, eq-eqb, ne_eqb, All-from_recursion, xor, Chain, same_from, any_below-same, odd_below-same, signature, chain_signature, signature_of, Mesh, face_count, edge_count, faces_of, IsSurface, ArePositive, cells_of, Trees, AreChosenAt, edge_signature, number_of, on_way, on_path}
use Rattle.surf_z2.proofs.Passing.{filter_same}
use Rattle.surf_surfaces.specs.Cotree.{tree_edges, cotree_edges, is_left, left_edges, split_of}
use Rattle.surf_surfaces.proofs.meshes.CellLaws.{surfaces_are_cells}
use Rattle.surf_surfaces.proofs.bases.LoopsOne.{trees_same, cotrees_same}
use Rattle.surf_classes.specs.EvidenceLaws.{OddChoiceIsThatOfAllTrees}
use Rattle.surf_classes.proofs.Listed.{passing_below}
use Rattle.surf_classes.proofs.OddChoice.{choice_same}

module _ (mesh : Mesh) (lengths : List ℕ) (base : ℕ) (a b : Trees) (surface : IsSurface mesh)
    (positive : ArePositive mesh lengths) (x : AreChosenAt mesh lengths base a) (y : AreChosenAt mesh lengths base b) where
  tree_same : (e : ℕ) → tree_edges mesh a.tree e ≡ tree_edges mesh b.tree e
  tree_same e =
      any_below-same mesh.vertices (λ n. not (eqb n a.tree.root) && eqb (a.tree.up n) e)
      (λ n. not (eqb n b.tree.root) && eqb (b.tree.up n) e) (λ n l. elim (cases_eq n base) [
        | inl is ↦
            let one : eqb n a.tree.root ≡ true = eq-eqb n a.tree.root (is ∙ sym x.shortest.root) in
            let two : eqb n b.tree.root ≡ true = eq-eqb n b.tree.root (is ∙ sym y.shortest.root) in
            rw (one, two) refl
        | inr ne ↦
            let ups : a.tree.up n ≡ b.tree.up n = (trees_same mesh lengths base a b surface positive x y).ups n l ne in
            let one : eqb n a.tree.root ≡ false = ne_eqb n a.tree.root (λ is. ne (is ∙ x.shortest.root)) in
            let two : eqb n b.tree.root ≡ false = ne_eqb n b.tree.root (λ is. ne (is ∙ y.shortest.root)) in
            rw (one, two, ups) refl
      ])

  cotree_same : (e : ℕ) → e < edge_count mesh → cotree_edges mesh a.cotree e ≡ cotree_edges mesh b.cotree e
  cotree_same e l = (cotrees_same mesh lengths base a b surface positive x y).edges e l

  left_same : left_edges mesh a.tree a.cotree ≡ left_edges mesh b.tree b.cotree
  left_same = filter_same (is_left mesh a.tree a.cotree) (is_left mesh b.tree b.cotree) 0 (edge_count mesh)
      (λ e l.
      let e_in : e < edge_count mesh = omega arith in
      ap (λ t. not t && not (cotree_edges mesh a.cotree e)) (tree_same e)
      ∙ ap (λ t. not (tree_edges mesh b.tree e) && not t) (cotree_same e e_in))

  way_same : (steps n e : ℕ) → n < face_count mesh → on_way a.cotree steps n e ≡ on_way b.cotree steps n e
  way_same zero n e l = refl
  way_same (suc steps) n e l = elim (cases_eq n 0) [
    | inl is ↦
        let one : eqb n a.cotree.root ≡ true = eq-eqb n a.cotree.root (is ∙ sym x.heaviest.joins_faces.root) in
        let two : eqb n b.cotree.root ≡ true = eq-eqb n b.cotree.root (is ∙ sym y.heaviest.joins_faces.root) in
        rw (one, two) refl
    | inr ne ↦
        let c = cotrees_same mesh lengths base a b surface positive x y in
        let one : eqb n a.cotree.root ≡ false = ne_eqb n a.cotree.root (λ is. ne (is ∙ x.heaviest.joins_faces.root)) in
        let two : eqb n b.cotree.root ≡ false = ne_eqb n b.cotree.root (λ is. ne (is ∙ y.heaviest.joins_faces.root)) in
        let parents : a.cotree.parent n ≡ b.cotree.parent n = c.parents n l ne in
        let ups : a.cotree.up n ≡ b.cotree.up n = c.ups n l ne in
        let rest = way_same steps (a.cotree.parent n) e
        (x.heaviest.joins_faces.spans.parent_in n l (λ is. ne (is ∙ x.heaviest.joins_faces.root))) in
        rw (one, two, ← parents, ← ups, rest) refl
  ]

  path_same : (n e : ℕ) → n < face_count mesh → on_path a.cotree n e ≡ on_path b.cotree n e
  path_same n e l =
      ap (λ r. on_way a.cotree r n e) ((cotrees_same mesh lengths base a b surface positive x y).depths n l)
      ∙ way_same (b.cotree.rank n) n e l

  -- the k-th left edge is an edge
  left_below : (k : ℕ) → k < length (left_edges mesh a.tree a.cotree) →
      get_or (left_edges mesh a.tree a.cotree) k 0 < edge_count mesh
  left_below k l = All-from_recursion (λ e. e < edge_count mesh) (left_edges mesh a.tree a.cotree)
      (passing_below (is_left mesh a.tree a.cotree) 0 (edge_count mesh) (edge_count mesh) (omega arith)) k 0 l

  bit_same : (e k : ℕ) → e < edge_count mesh → k < length (left_edges mesh a.tree a.cotree) →
      signature (cells_of mesh) (split_of mesh a.tree a.cotree) e k
      ≡ signature (cells_of mesh) (split_of mesh b.tree b.cotree) e k
  bit_same e k l lk =
      let m = get_or (left_edges mesh a.tree a.cotree) k 0 in
      let other = get_or (left_edges mesh b.tree b.cotree) k 0 in
      let same : m ≡ other = ap (λ xs. get_or xs k 0) left_same in
      let both = (surfaces_are_cells mesh surface).complex.dual_ends m (left_below k lk) in
      let near : on_path a.cotree (faces_of mesh m).0 e ≡ on_path b.cotree (faces_of mesh other).0 e =
      path_same (faces_of mesh m).0 e both.0 ∙ ap (λ j. on_path b.cotree (faces_of mesh j).0 e) same in
      let far : on_path a.cotree (faces_of mesh m).1 e ≡ on_path b.cotree (faces_of mesh other).1 e =
      path_same (faces_of mesh m).1 e both.1 ∙ ap (λ j. on_path b.cotree (faces_of mesh j).1 e) same in
      let parted : xor (on_path a.cotree (faces_of mesh m).0 e) (on_path a.cotree (faces_of mesh m).1 e)
      ≡ xor (on_path b.cotree (faces_of mesh other).0 e) (on_path b.cotree (faces_of mesh other).1 e) =
      ap (λ t. xor t (on_path a.cotree (faces_of mesh m).1 e)) near
      ∙ ap (xor (on_path b.cotree (faces_of mesh other).0 e)) far in
      let is : eqb m e ≡ eqb other e = ap (λ j. eqb j e) same in
      four (tree_edges mesh a.tree e) (tree_edges mesh b.tree e) (cotree_edges mesh a.cotree e)
      (cotree_edges mesh b.cotree e) _ _ _ _ (tree_same e) (cotree_same e l) parted is
    where
      four : (t u c d p q r s : Bool) → t ≡ u → c ≡ d → p ≡ q → r ≡ s →
          cond t false (cond c p r) ≡ cond u false (cond d q s)
      four t u c d p q r s a b e f = rw (a, b, e, f) refl

  edges_same : (e : ℕ) → e < edge_count mesh → edge_signature mesh (split_of mesh a.tree a.cotree) e
      ≡ edge_signature mesh (split_of mesh b.tree b.cotree) e
  edges_same e l =
      let one = signature (cells_of mesh) (split_of mesh a.tree a.cotree) e in
      let two = signature (cells_of mesh) (split_of mesh b.tree b.cotree) e in
      same_from (length (left_edges mesh a.tree a.cotree)) one two (λ k lk. bit_same e k l lk)
      ∙ ap (λ n. number_of n two) (ap length left_same)

  chain_same : (chain : Chain) → signature_of (cells_of mesh) (split_of mesh a.tree a.cotree) chain
      ≡ signature_of (cells_of mesh) (split_of mesh b.tree b.cotree) chain
  chain_same chain =
      let s = cells_of mesh in
      let da = split_of mesh a.tree a.cotree in
      let db = split_of mesh b.tree b.cotree in
      same_from (length (left_edges mesh a.tree a.cotree)) (chain_signature s da chain) (chain_signature s db chain)
      (λ k lk. odd_below-same (edge_count mesh) (λ e. chain e && signature s da e k) (λ e. chain e && signature s db e k)
      (λ e l. ap (λ t. chain e && t) (bit_same e k l lk)))
      ∙ ap (λ n. number_of n (chain_signature s db chain)) (ap length left_same)

pub odd_choice_is_that_of_all_trees : OddChoiceIsThatOfAllTrees
odd_choice_is_that_of_all_trees mesh lengths base a b surface positive x y chain pairs others one two =
    choice_same mesh (split_of mesh a.tree a.cotree) (split_of mesh b.tree b.cotree) chain pairs others
    (chain_same mesh lengths base a b surface positive x y chain)
    (edges_same mesh lengths base a b surface positive x y) one two
