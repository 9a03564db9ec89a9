-- The certificate of the choice is one.
use Rattle.surf_surfaces.proofs.Common.{◌≡◌, ℕ, zero, suc, ◌+◌, ◌<◌, Bool, List, map, refl, ap, sym, ◌∙◌, arith, inl, inr, Option, Some, cases_eq, ne_eqb, eq-eqb, Mesh, face_count, edge_count, ends, IsSurface, ArePositive, Trees, AreChosenAt}
use Rattle.std.specs.List.{filter, range_with_len}
use Rattle.surf_surfaces.specs.Cotree.{is_left, left_edges}
use Rattle.surf_surfaces.proofs.bases.LoopsOne.{trees_same, edges_same, cotrees_same}
use Rattle.surf_validity.specs.Rows.{TreeRows, DualRows, LoopCert}
use Rattle.surf_validity.specs.Chosen.{parent_in, side_in, rows_for, dual_rows_of, chosen_cert}
use Rattle.surf_validity.specs.Laws.{ChosenCertsAreOne}

pub tables_same : {X : Type 0} (f g : ℕ → X) (a n : ℕ) → ((k : ℕ) → k < a + n → f k ≡ g k) →
    map f (range_with_len a n) ≡ map g (range_with_len a n)
tables_same f g a zero same = refl
tables_same f g a (suc n) same =
    let rest : map f (range_with_len (a + 1) n) ≡ map g (range_with_len (a + 1) n) =
    tables_same f g (a + 1) n (λ k l. same k (omega (arith, l))) in
    rw (same a (omega arith), rest) refl

passing_same : (p q : ℕ → Bool) (a n : ℕ) → ((k : ℕ) → k < a + n → p k ≡ q k) →
    filter p (range_with_len a n) ≡ filter q (range_with_len a n)
passing_same p q a zero same = refl
passing_same p q a (suc n) same =
    let rest : filter p (range_with_len (a + 1) n) ≡ filter q (range_with_len (a + 1) n) =
    passing_same p q (a + 1) n (λ k l. same k (omega (arith, l))) in
    rw (same a (omega arith), rest) refl

module _ (mesh : Mesh) (lengths : List ℕ) (base : ℕ) (a b : Trees) (surface : IsSurface mesh)
    (positive : ArePositive mesh lengths) (x : AreChosenAt mesh lengths base a) (y : AreChosenAt mesh lengths base b) where
  roots : a.tree.root ≡ b.tree.root
  roots = x.shortest.root ∙ sym y.shortest.root

  parents : (v : ℕ) → v < mesh.vertices → parent_in a.tree v ≡ parent_in b.tree v
  parents v l = elim (cases_eq v a.tree.root) [
    | inl same ↦ rw (eq-eqb v a.tree.root same, eq-eqb v b.tree.root (same ∙ roots)) refl
    | inr ne ↦ rw (ne_eqb v a.tree.root ne, ne_eqb v b.tree.root (λ z. ne (z ∙ sym roots)))
        (ap Some ((trees_same mesh lengths base a b surface positive x y).parents v l (λ z. ne (z ∙ sym x.shortest.root))))
  ]

  sides : (f : ℕ) → f < face_count mesh → side_in mesh a.cotree f ≡ side_in mesh b.cotree f
  sides f l =
      let same = x.heaviest.joins_faces.root ∙ sym y.heaviest.joins_faces.root in
      elim (cases_eq f a.cotree.root) [
        | inl is ↦ rw (eq-eqb f a.cotree.root is, eq-eqb f b.cotree.root (is ∙ same)) refl
        | inr ne ↦ rw (ne_eqb f a.cotree.root ne, ne_eqb f b.cotree.root (λ z. ne (z ∙ sym same)))
            (ap (λ e. Some (ends mesh e))
            ((cotrees_same mesh lengths base a b surface positive x y).ups f l (λ z. ne (z ∙ sym x.heaviest.joins_faces.root))))
      ]

  lefts : left_edges mesh a.tree a.cotree ≡ left_edges mesh b.tree b.cotree
  lefts = passing_same (is_left mesh a.tree a.cotree) (is_left mesh b.tree b.cotree) 0 (edge_count mesh)
      (λ e l. rw (
        edges_same mesh lengths base a b surface positive x y e,
        (cotrees_same mesh lengths base a b surface positive x y).edges e (omega (arith, l)),
      ) refl)

  one_cert : chosen_cert mesh a ≡ chosen_cert mesh b
  one_cert =
      let ranks = tables_same a.tree.rank b.tree.rank 0 mesh.vertices
      (λ v l. (trees_same mesh lengths base a b surface positive x y).ranks v (omega (arith, l))) in
      let ups = tables_same (parent_in a.tree) (parent_in b.tree) 0 mesh.vertices (λ v l. parents v (omega (arith, l))) in
      let depths = tables_same a.cotree.rank b.cotree.rank 0 (face_count mesh)
      (λ f l. (cotrees_same mesh lengths base a b surface positive x y).depths f (omega (arith, l))) in
      let over = tables_same (side_in mesh a.cotree) (side_in mesh b.cotree) 0 (face_count mesh)
      (λ f l. sides f (omega (arith, l))) in
      let tables : ℕ → List ℕ → List (Option ℕ) → TreeRows =
      λ base distance parent. record { base = base; distance = distance; parent = parent } in
      let faces : List ℕ → List (Option (ℕ × ℕ)) → DualRows = λ depth side. record { depth = depth; side = side } in
      let all : TreeRows → DualRows → List ℕ → LoopCert =
      λ tree dual left. record { tree = tree; dual = dual; left = map (ends mesh) left } in
      let rows : rows_for mesh a.tree ≡ rows_for mesh b.tree =
      ap (λ r. tables r (rows_for mesh a.tree).distance (rows_for mesh a.tree).parent) roots
      ∙ ap (λ d. tables b.tree.root d (rows_for mesh a.tree).parent) ranks
      ∙ ap (tables b.tree.root (rows_for mesh b.tree).distance) ups in
      let duals : dual_rows_of mesh a.cotree ≡ dual_rows_of mesh b.cotree =
      ap (λ d. faces d (dual_rows_of mesh a.cotree).side) depths ∙ ap (faces (dual_rows_of mesh b.cotree).depth) over in
      ap (λ t. all t (dual_rows_of mesh a.cotree) (left_edges mesh a.tree a.cotree)) rows
      ∙ ap (λ d. all (rows_for mesh b.tree) d (left_edges mesh a.tree a.cotree)) duals
      ∙ ap (all (rows_for mesh b.tree) (dual_rows_of mesh b.cotree)) lefts

pub chosen_certs_are_one : ChosenCertsAreOne
chosen_certs_are_one mesh lengths base a b surface positive x y = one_cert mesh lengths base a b surface positive x y
