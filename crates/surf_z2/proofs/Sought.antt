-- The least number with a property that can be decided.
use Rattle.surf_z2.proofs.Common.{ℕ, zero, suc, ◌<◌, ◌≤◌, ◌⊎◌, subst, arith, inl, inr, cases_eq, cases_lt}

-- the least number below n that has the property
pub record LeastSuch (n : ℕ) (P : ℕ → Type 0) : Type 0 where
  pub at : ℕ
  pub below : at < n
  pub holds : P at
  pub least : (j : ℕ) → j < n → P j → at ≤ j

pub least_such : (n : ℕ) (P : ℕ → Type 0) → ((k : ℕ) → k < n → P k ⊎ (P k → ⊥)) →
    LeastSuch n P ⊎ ((k : ℕ) → k < n → P k → ⊥)
least_such zero P decide = inr (λ k l. absurd (omega arith))
least_such (suc n) P decide = elim (least_such n P (λ k l. decide k (omega arith))) [
  | inl some ↦
      let under : some.at < n = some.below in
      inl (record {
        at = some.at;
        below = omega arith;
        holds = some.holds;
        least = λ j l pj. elim (cases_lt j n) [
          | inl earlier ↦ some.least j earlier pj
          | inr last ↦ omega arith
        ];
      })
  | inr none ↦ elim (decide n (omega arith)) [
    | inl here ↦ inl (record {
      at = n;
      below = omega arith;
      holds = here;
      least = λ j l pj. elim (cases_lt j n) [
        | inl earlier ↦ absurd (none j earlier pj)
        | inr last ↦ last
      ];
    })
    | inr out ↦ inr (λ k l pk. elim (cases_eq k n) [
      | inl same ↦ out (subst P same pk)
      | inr ne ↦ none k (omega arith) pk
    ])
  ]
]
