-- The trees of a valid certificate and the edges in neither are a split, and the listed pairs are those edges.
use Rattle.surf_surfaces.proofs.Common.{◌≡◌, ℕ, ◌+◌, ◌<◌, Bool, true, false, not, eqb, List, [], ◌∷◌, length, get_or, map, IsPermutation, refl, sym, ap, ◌∙◌, arith, inl, inr, AllByRecursion, list_any, cases_Bool, or_right, and_parts, eq-eqb, false≢true, false_from_ne_true, length-map, primal, dual, IsSplit, Tree, IsTree, left_edges as left_count, Mesh, pair_of, pair_eq, edges, edge_count, ends, edge_number, place_of, IsLoopCount, cells_of}
use Rattle.surf_surfaces.specs.Cotree.{tree_edges, cotree_edges, is_left, left_edges, split_of}
use Rattle.surf_surfaces.proofs.meshes.PairLaws.{pair_eq-true}
use Rattle.surf_surfaces.proofs.meshes.EdgeLaws.{place_of-ends}
use Rattle.surf_surfaces.proofs.classes.CotreeLaws.{left_each, trees_split, passing_climb, passing_each, not-false_is}
use Rattle.surf_validity.specs.Valid.{is_listed, just_one}
use Rattle.surf_validity.proofs.ListLaws.{permuted_where_found}

-- each edge is in just one of the two trees and the list
pub record AreApart (mesh : Mesh) (tree cotree : Tree) (left : List (ℕ × ℕ)) : Type 0 where
  pub one_of : (e : ℕ) → e < edge_count mesh →
      just_one (tree_edges mesh tree e) (cotree_edges mesh cotree e) (is_listed mesh left e) ≡ true

just_first : (a b c : Bool) → just_one a b c ≡ true → a ≡ true → (b ≡ false) × (c ≡ false)
just_first a b c h on = let both = and_parts (not b) (not c) (rw on at h) in
    (not-false_is b both.0, not-false_is c both.1)

just_third : (a b c : Bool) → just_one a b c ≡ true → c ≡ true → (a ≡ false) × (b ≡ false)
just_third true b c h on = absurd (false≢true (sym (just_first true b c h refl).1 ∙ on))
just_third false true c h on = absurd (false≢true (sym (not-false_is c h) ∙ on))
just_third false false c h on = (refl, refl)

else_third : (a b c : Bool) → just_one a b c ≡ true → a ≡ false → b ≡ false → c ≡ true
else_third a b c h no_a no_b = rw (no_a, no_b) at h

module _ (mesh : Mesh) (tree cotree : Tree) (left : List (ℕ × ℕ)) (apart : AreApart mesh tree cotree left) where
  pub is_split : IsTree (primal (cells_of mesh)) tree → IsTree (dual (cells_of mesh)) cotree →
      IsSplit (cells_of mesh) (split_of mesh tree cotree)
  is_split is_tree is_cotree = trees_split mesh tree cotree is_tree is_cotree
      (λ e l on. false_from_ne_true (tree_edges mesh tree e) (λ first. false≢true
      (sym (just_first (tree_edges mesh tree e) (cotree_edges mesh cotree e) (is_listed mesh left e) (apart.one_of e l)
      first).0 ∙ on)))

  -- a listed edge is the number of a listed pair
  number_listed : (e : ℕ) → e < edge_count mesh → (ps : List (ℕ × ℕ)) →
      list_any (λ p. pair_eq (ends mesh e) (pair_of p)) ps ≡ true → list_any (eqb e) (map (edge_number mesh) ps) ≡ true
  number_listed e l [] h = absurd (false≢true h)
  number_listed e l (p ∷ ps) h = elim (cases_Bool (pair_eq (ends mesh e) (pair_of p))) [
    | inl is ↦
        let same : e ≡ edge_number mesh p =
        sym (place_of-ends mesh e l) ∙ ap (λ q. place_of q (edges mesh)) (pair_eq-true (ends mesh e) (pair_of p) is) in
        rw (eq-eqb e (edge_number mesh p) same) refl
    | inr out ↦ or_right (eqb e (edge_number mesh p)) (list_any (eqb e) (map (edge_number mesh) ps))
        (number_listed e l ps (rw out at h))
  ]

  -- the numbers of the listed pairs are the edges in neither tree
  pub listed_permute : IsTree (primal (cells_of mesh)) tree → IsTree (dual (cells_of mesh)) cotree →
      IsLoopCount mesh (length left) →
      IsPermutation (left_edges mesh tree cotree) (map (edge_number mesh) left)
  listed_permute is_tree is_cotree count =
      let split = is_split is_tree is_cotree in
      let counted = left_count (cells_of mesh) (split_of mesh tree cotree) split in
      let size = length-map left (edge_number mesh) in
      permuted_where_found 0 (left_edges mesh tree cotree) (map (edge_number mesh) left)
      (passing_climb (is_left mesh tree cotree) 0 (edge_count mesh))
      (found (left_edges mesh tree cotree) (passing_each (is_left mesh tree cotree) 0 (edge_count mesh)))
      (omega (arith, counted, count, size))
    where
      found : (xs : List ℕ) → AllByRecursion (λ x. (x < 0 + edge_count mesh) × (is_left mesh tree cotree x ≡ true)) xs →
          AllByRecursion (λ x. list_any (eqb x) (map (edge_number mesh) left) ≡ true) xs
      found [] h = tt
      found (x ∷ xs) h =
          let l : x < edge_count mesh = omega (arith, h.0.0) in
          let both = and_parts (not (tree_edges mesh tree x)) (not (cotree_edges mesh cotree x)) h.0.1 in (
            number_listed x l left (else_third (tree_edges mesh tree x) (cotree_edges mesh cotree x) (is_listed mesh left x)
                (apart.one_of x l) (not-false_is (tree_edges mesh tree x) both.0)
                (not-false_is (cotree_edges mesh cotree x) both.1)),
            found xs h.1,
          )

  -- each edge in neither tree is listed
  pub left_listed : (k : ℕ) → k < length (left_edges mesh tree cotree) →
      (get_or (left_edges mesh tree cotree) k 0 < edge_count mesh)
      × (is_listed mesh left (get_or (left_edges mesh tree cotree) k 0) ≡ true)
  left_listed k l =
      let e = get_or (left_edges mesh tree cotree) k 0 in
      let is = left_each mesh tree cotree k l in (
        is.0,
        else_third (tree_edges mesh tree e) (cotree_edges mesh cotree e) (is_listed mesh left e) (apart.one_of e is.0) is.1
            is.2,
      )
