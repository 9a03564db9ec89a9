-- Neighbours of a list that no edge joins.
use Rattle.surf_cert.proofs.Common.{◌≡◌, ℕ, ◌<◌, ◌≤◌, ◌+◌, ◌-◌, true, false, not, List, [], ◌∷◌, length, get_or, Some, None, sym, ap, ◌∙◌, arith, inl, inr, position, cases_lt, get_or_default, Mesh, pair, pair_of, pair_eq, among, edges, steps, edge_count, ends, list_any_from, pair_eq-same}
use Rattle.surf_class.proofs.Common.{steps_at, count_steps}
use Rattle.surf_class.proofs.Lists.{position_at, position_none}

no_steps : (list : List ℕ) → length list ≤ 0 → (k : ℕ) → k < length (steps list) → ⊥
no_steps [] l k m = omega arith
no_steps (u ∷ rest) l k m = absurd (omega (arith, l))

module _ (mesh : Mesh) (list : List ℕ) where
  step_joined : (k : ℕ) → k + 1 < length list →
      among (pair (get_or list k 0) (get_or list (k + 1) 0)) (edges mesh) ≡ true →
      not (among (pair_of (get_or (steps list) k (0, 0))) (edges mesh)) ≡ false
  step_joined k l is =
      ap (λ s. not (among (pair_of s) (edges mesh))) (steps_at list k (0, 0) l) ∙ ap not is

  pub gap_at : (i a b : ℕ) → 1 ≤ i → i < length list → a ≡ get_or list (i - 1) a → b ≡ get_or list i b →
      ((k : ℕ) → k + 1 < i → among (pair (get_or list k 0) (get_or list (k + 1) 0)) (edges mesh) ≡ true) →
      among (pair a b) (edges mesh) ≡ false →
      position (λ s. not (among (pair_of s) (edges mesh))) (steps list) ≡ Some (i - 1)
  gap_at i a b some l near far before none =
      let back : i - 1 + 1 ≡ i = omega (arith, some) in
      let at_near : a ≡ get_or list (i - 1) 0 = near ∙ get_or_default list (i - 1) a 0 (omega (arith, l)) in
      let at_far : b ≡ get_or list i 0 = far ∙ get_or_default list i b 0 l in
      let size = count_steps list (omega (arith, l)) in
      let here : among (pair_of (get_or (steps list) (i - 1) (0, 0))) (edges mesh) ≡ false =
      ap (λ s. among (pair_of s) (edges mesh)) (steps_at list (i - 1) (0, 0) (omega (arith, back, l)))
      ∙ ap (λ n. among (pair (get_or list (i - 1) 0) (get_or list n 0)) (edges mesh)) back
      ∙ ap (λ n. among (pair n (get_or list i 0)) (edges mesh)) (sym at_near)
      ∙ ap (λ n. among (pair a n) (edges mesh)) (sym at_far) ∙ none in
      position_at (λ s. not (among (pair_of s) (edges mesh))) (steps list) (i - 1) (0, 0) (omega (arith, size, l, some))
      (λ k m. step_joined k (omega (arith, m, l)) (before k (omega (arith, m, some)))) (ap not here)

  pub gap_none : ((k : ℕ) → k + 1 < length list → among (pair (get_or list k 0) (get_or list (k + 1) 0)) (edges mesh) ≡ true) →
      position (λ s. not (among (pair_of s) (edges mesh))) (steps list) ≡ None
  gap_none all = position_none (λ s. not (among (pair_of s) (edges mesh))) (steps list) (0, 0) (λ k l. step_joined k (few k l) (all k (few k l)))
    where
      few : (k : ℕ) → k < length (steps list) → k + 1 < length list
      few k l = elim (cases_lt 0 (length list)) [
        | inl some ↦ (let size = count_steps list some in omega (arith, size, l))
        | inr none ↦ absurd (no_steps list none k l)
      ]

  pub there_is : (i k a b e : ℕ) → i ≡ k + 1 → i < length list → a ≡ get_or list (i - 1) a → b ≡ get_or list i b →
      e < edge_count mesh → ends mesh e ≡ pair a b →
      among (pair (get_or list k 0) (get_or list (k + 1) 0)) (edges mesh) ≡ true
  there_is i k a b e at l near far inside is =
      let k_is : i - 1 ≡ k = omega (arith, at) in
      let at_near : a ≡ get_or list k 0 = near ∙ get_or_default list (i - 1) a 0 (omega (arith, l)) ∙ ap (λ n. get_or list n 0) k_is in
      let at_far : b ≡ get_or list (k + 1) 0 = far ∙ get_or_default list i b 0 l ∙ ap (λ n. get_or list n 0) at in
      let there : among (pair a b) (edges mesh) ≡ true =
      list_any_from (pair_eq (pair a b)) (edges mesh) (0, 0) e inside (pair_eq-same (pair a b) (ends mesh e) (sym is)) in
      ap (λ n. among (pair n (get_or list (k + 1) 0)) (edges mesh)) (sym at_near)
      ∙ ap (λ n. among (pair a n) (edges mesh)) (sym at_far) ∙ there
