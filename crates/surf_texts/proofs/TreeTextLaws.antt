-- A grown tree's tables have the text of its tree.
use Rattle.std.proofs.Common.{◌≡◌, ℕ, zero, suc, ◌+◌, ◌<◌, List, ◌++◌, eqb, get_or, refl, sym, ap, ◌∙◌, arith, inl, inr, eq-eqb, true, false}
use Rattle.surf_surfaces.proofs.Common.{flat_map, range_with_len, cases_eq, ne_eqb, Tree, Mesh}
use Rattle.surf_surfaces.specs.ShortestTree.{SameTree}
use Rattle.surf_tree.specs.Tables.{TreeTables, parent_of, tree_of}
use Rattle.surf_tree.specs.Grown.{IsGrown}
use Rattle.surf_texts.specs.DistanceTexts.{vertex_line, parent_in, distances_text}
use Rattle.surf_texts.specs.TreeTexts.{tables_text}

flat_map_same : (f g : ℕ → List ℕ) (a n : ℕ) → ((k : ℕ) → k < a + n → f k ≡ g k) →
    flat_map f (range_with_len a n) ≡ flat_map g (range_with_len a n)
flat_map_same f g a zero same = refl
flat_map_same f g a (suc n) same =
    let rest : flat_map f (range_with_len (a + 1) n) ≡ flat_map g (range_with_len (a + 1) n) =
    flat_map_same f g (a + 1) n (λ k l. same k (omega (arith, l))) in
    ap (λ xs. xs ++ flat_map f (range_with_len (a + 1) n)) (same a (omega arith)) ∙ ap (λ xs. g a ++ xs) rest

parents_same : (mesh : Mesh) (lengths : List ℕ) (base : ℕ) (t : TreeTables) → IsGrown mesh lengths base t → (v : ℕ) → v < mesh.vertices →
    parent_of t v ≡ parent_in (tree_of t) v
parents_same mesh lengths base t grown v l = elim (cases_eq v base) [
  | inl is ↦
      let at_base : eqb v t.base ≡ true = eq-eqb v t.base (is ∙ sym grown.base_is) in
      ap (λ u. parent_of t u) is ∙ grown.base_alone ∙ sym (rw at_base refl)
  | inr ne ↦
      let elsewhere : eqb v t.base ≡ false = ne_eqb v t.base (λ is. ne (is ∙ grown.base_is)) in
      grown.parents v l ne ∙ sym (rw elsewhere refl)
]

-- the text of the tables is that of distances and parents
pub tables_are_texts : (mesh : Mesh) (lengths : List ℕ) (base : ℕ) (t : TreeTables) → IsGrown mesh lengths base t →
    tables_text t mesh.vertices ≡ distances_text mesh.vertices (tree_of t)
tables_are_texts mesh lengths base t grown =
    flat_map_same (λ v. vertex_line v (get_or t.distances v 0) (parent_of t v)) (λ v. vertex_line v (get_or t.distances v 0) (parent_in (tree_of t) v)) 0 mesh.vertices
    (λ v l. ap (λ p. vertex_line v (get_or t.distances v 0) p) (parents_same mesh lengths base t grown v (omega (arith, l))))

-- trees with the same distances and parents have the same text
pub texts_same : (mesh : Mesh) (base : ℕ) (a b : Tree) → SameTree mesh base a b → a.root ≡ base → b.root ≡ base →
    distances_text mesh.vertices a ≡ distances_text mesh.vertices b
texts_same mesh base a b same a_root b_root =
    flat_map_same (λ v. vertex_line v (a.rank v) (parent_in a v)) (λ v. vertex_line v (b.rank v) (parent_in b v)) 0 mesh.vertices
    (λ v l. ap (λ n. vertex_line v n (parent_in a v)) (same.ranks v (omega (arith, l)))
    ∙ ap (λ p. vertex_line v (b.rank v) p) (parents_agree v (omega (arith, l))))
  where
    parents_agree : (v : ℕ) → v < mesh.vertices → parent_in a v ≡ parent_in b v
    parents_agree v l = elim (cases_eq v base) [
      | inl is ↦
          let one : eqb v a.root ≡ true = eq-eqb v a.root (is ∙ sym a_root) in
          let two : eqb v b.root ≡ true = eq-eqb v b.root (is ∙ sym b_root) in
          rw (one, two) refl
      | inr ne ↦
          let one : eqb v a.root ≡ false = ne_eqb v a.root (λ is. ne (is ∙ a_root)) in
          let two : eqb v b.root ≡ false = ne_eqb v b.root (λ is. ne (is ∙ b_root)) in
          rw (one, two, same.parents v l ne) refl
    ]
