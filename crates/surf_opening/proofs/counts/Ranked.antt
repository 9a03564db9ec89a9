-- Numbers below a bound in a strict order of their own: the rank of each is how many come before it.
use Rattle.surf_surfaces.proofs.Common.{◌≡◌, ◌≢◌, ℕ, zero, suc, ◌<◌, ◌≤◌, ◌⊎◌, inl, inr, sym, refl, ap, ◌∙◌, Bool, true, false, arith, cases_eq, cases_Bool, both_ways, count_below-all, count_below, any_below, least_below, count_mono, any_below-found, any_below-from, least_below-found}
use Rattle.surf_opening.proofs.counts.Counting.{pigeons}
use Rattle.surf_opening.proofs.cuts.NamedEdges.{search_below}
use Rattle.surf_opening.proofs.openings.Slits.{lower, lower_below, lower_tells}

-- what passes the one test passes the other, and one more passes that
count_less : (n : ℕ) (p q : ℕ → Bool) (j : ℕ) → ((k : ℕ) → k < n → p k ≡ true → q k ≡ true) → j < n → p j ≡ false →
    q j ≡ true → count_below n p < count_below n q
count_less zero p q j h l a b = absurd (omega arith)
count_less (suc n) p q j h l a b = elim (cases_eq j n) [
  | inl same ↦
      let rest : count_below n p ≤ count_below n q = count_mono n p q (λ k l. h k (omega arith)) in
      rw (ap p (sym same) ∙ a, ap q (sym same) ∙ b) (omega arith)
  | inr differ ↦
      let rest : count_below n p < count_below n q = count_less n p q j (λ k l. h k (omega arith)) (omega arith) a b in
      elim (cases_Bool (p n)) [
        | inl e ↦ rw (e, h n (omega arith) e) (omega arith)
        | inr e ↦ rw e (omega arith)
      ]
]

-- no number that passes is less than the least
pub least_below-least : (n : ℕ) (p : ℕ → Bool) (k : ℕ) → k < n → p k ≡ true → least_below n p ≤ k
least_below-least zero p k l h = absurd (omega arith)
least_below-least (suc n) p k l h = elim (cases_Bool (any_below n p)) [
  | inl some ↦ elim (cases_eq k n) [
    | inl same ↦
        let found = any_below-found n p some in
        let least : least_below n p < n = (least_below-found n p found.0 found.1 found.2).0 in
        rw some (omega arith)
    | inr differ ↦ let rest : least_below n p ≤ k = least_below-least n p k (omega arith) h in rw some rest
  ]
  | inr none ↦ elim (cases_eq k n) [
    | inl same ↦ rw (none, ap p (sym same) ∙ h) (omega arith)
    | inr differ ↦ absurd (both_ways (any_below n p) none (any_below-from n p k (omega arith) h))
  ]
]

module _ (n : ℕ) (before : ℕ → ℕ → Bool) (never : (c : ℕ) → before c c ≡ false)
    (onward : (c d e : ℕ) → before c d ≡ true → before d e ≡ true → before c e ≡ true)
    (order : (c d : ℕ) → c < n → d < n → c ≢ d → (before c d ≡ true) ⊎ (before d c ≡ true)) where
  abbrev pub rank : ℕ → ℕ
  rank c = count_below n (λ d. before d c)

  pub rank_up : (c d : ℕ) → c < n → before c d ≡ true → rank c < rank d
  rank_up c d h b = count_less n (λ e. before e c) (λ e. before e d) c (λ k l a. onward k c d a b) h (never c) b

  pub rank_below : (c : ℕ) → c < n → rank c < n
  rank_below c h =
      let all : count_below n (λ k. true) ≡ n = count_below-all n in
      let less : rank c < count_below n (λ k. true) =
      count_less n (λ e. before e c) (λ e. true) c (λ k l a. refl) h (never c) refl in
      omega arith

  pub rank_one : (c d : ℕ) → c < n → d < n → rank c ≡ rank d → c ≡ d
  rank_one c d h g e = elim (cases_eq c d) [
    | inl same ↦ same
    | inr differ ↦ elim (order c d h g differ) [
      | inl b ↦ let less : rank c < rank d = rank_up c d h b in absurd (omega arith)
      | inr b ↦ let less : rank d < rank c = rank_up d c g b in absurd (omega arith)
    ]
  ]

  -- of two, the one with the lesser rank comes before
  pub rank_tells : (c d : ℕ) → c < n → d < n → rank c < rank d → before c d ≡ true
  rank_tells c d h g less = elim (cases_eq c d) [
    | inl same ↦ let e : rank c ≡ rank d = ap rank same in absurd (omega arith)
    | inr differ ↦ elim (order c d h g differ) [
      | inl b ↦ b
      | inr b ↦ let more : rank d < rank c = rank_up d c g b in absurd (omega arith)
    ]
  ]

  missed : (m k : ℕ) → n ≡ suc m → k < n → ((c : ℕ) → c < n → rank c ≡ k → ⊥) → ⊥
  missed m k e h none =
      let few : n ≤ m = pigeons n m (λ c j. j ≡ lower k (rank c))
      (λ c l. let b : rank c < n = rank_below c l in
      (lower k (rank c), lower_below m k (rank c) (omega arith) (omega arith) (none c l), refl))
      (λ c d j l i a b. rank_one c d l i (lower_tells k (rank c) (rank d) (none c l) (none d i) (sym a ∙ b))) in
      omega arith

  pub rank_onto : (k : ℕ) → k < n → (c : ℕ) × (c < n) × (rank c ≡ k)
  rank_onto k h = elim (search_below n (λ c. rank c ≡ k) (λ c. cases_eq (rank c) k)) [
    | inl found ↦ found
    | inr none ↦ absurd (by_size n refl none)
  ]
    where
      by_size : (m : ℕ) → n ≡ m → ((c : ℕ) → c < n → rank c ≡ k → ⊥) → ⊥
      by_size zero e none = omega arith
      by_size (suc m) e none = missed m k e h none
