-- Conditions that are decided, and what a search through finitely many numbers finds.
use Rattle.surf_surfaces.proofs.Common.{◌≡◌, ◌<◌, ◌≤◌, ◌⊎◌, ℕ, Bool, true, false, refl, sym, arith, inl, inr, cases_eq, cases_lt, true≢false}
use Rattle.surf_z2.proofs.Sought.{least_such}
use Rattle.surf_treecheck.specs.First.{HoldsBelow, FailsFirst}

-- the condition holds, or it doesn't
abbrev pub Decided : Type 0 → Type 0
Decided P = P ⊎ (P → ⊥)

pub when_same : (m n : ℕ) → Decided (m ≡ n)
when_same m n = elim (cases_eq m n) [
  | inl same ↦ inl same
  | inr other ↦ inr other
]

pub when_less : (m n : ℕ) → Decided (m < n)
when_less m n = elim (cases_lt m n) [
  | inl less ↦ inl less
  | inr more ↦ inr (λ less. absurd (omega (arith, less, more)))
]

pub when_most : (m n : ℕ) → Decided (m ≤ n)
when_most m n = elim (cases_lt n m) [
  | inl more ↦ inr (λ less. absurd (omega (arith, less, more)))
  | inr less ↦ inl less
]

pub when_true : (b : Bool) → Decided (b ≡ true)
when_true true = inl refl
when_true false = inr (λ is. true≢false (sym is))

pub both : {P Q : Type 0} → Decided P → Decided Q → Decided (P × Q)
both (inl p) (inl q) = inl (p, q)
both (inl p) (inr deny) = inr (λ pair. deny pair.1)
both (inr deny) q = inr (λ pair. deny pair.0)

pub denied : {P : Type 0} → Decided P → Decided (P → ⊥)
denied (inl p) = inr (λ deny. deny p)
denied (inr deny) = inl deny

pub implied : {P Q : Type 0} → Decided P → Decided Q → Decided (P → Q)
implied p (inl q) = inl (λ _. q)
implied (inl p) (inr deny) = inr (λ f. deny (f p))
implied (inr out) (inr deny) = inl (λ p. absurd (out p))

pub one_of : {P Q : Type 0} → Decided P → Decided Q → Decided (P ⊎ Q)
one_of (inl p) q = inl (inl p)
one_of (inr deny) (inl q) = inl (inr q)
one_of {P} {Q} (inr deny) (inr out) = inr at
  where
    at : P ⊎ Q → ⊥
    at (inl p) = deny p
    at (inr q) = out q

-- what is equivalent to what is decided
pub as_well : {P Q : Type 0} → (P → Q) → (Q → P) → Decided P → Decided Q
as_well to from (inl p) = inl (to p)
as_well to from (inr deny) = inr (λ q. deny (from q))

-- what isn't denied
pub undenied : {P : Type 0} → Decided P → ((P → ⊥) → ⊥) → P
undenied (inl p) not_no = p
undenied (inr deny) not_no = absurd (not_no deny)

-- ---- searches

module _ (n : ℕ) (P : ℕ → Type 0) (decide : (k : ℕ) → k < n → Decided (P k)) where
  -- a condition of numbers holds below a bound, or there is a first one at which it fails
  pub all_or_first : HoldsBelow n P ⊎ ((k : ℕ) × FailsFirst n P k)
  all_or_first = elim (least_such n (λ k. P k → ⊥) (λ k l. denied (decide k l))) [
    | inl some ↦
        let below = some.below in
        let first : FailsFirst n P some.at =
        record {
          below = below;
          fails = some.holds;
          before = λ j l. undenied (decide j (omega (arith, l, below)))
              (λ deny. let late = some.least j (omega (arith, l, below)) deny in absurd (omega (arith, l, late)));
        } in
        inr (some.at, first)
    | inr none ↦ inl (λ k l. undenied (decide k l) (none k l))
  ]

  pub all_below : Decided (HoldsBelow n P)
  all_below = elim all_or_first [
    | inl all ↦ inl all
    | inr first ↦ inr (λ all. first.1.fails (all first.0 first.1.below))
  ]

  pub some_below : Decided ((k : ℕ) × (k < n) × P k)
  some_below = elim (least_such n P decide) [
    | inl some ↦ inl (some.at, some.below, some.holds)
    | inr none ↦ inr (λ some. none some.0 some.1 some.2)
  ]
