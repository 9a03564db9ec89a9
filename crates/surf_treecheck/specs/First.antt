-- The first number below a bound at which a condition fails.
use Rattle.std.specs.Prelude.{ℕ, ◌<◌, Bool, MatchBool, Option, MatchOption}

-- the condition holds at each number below
abbrev pub HoldsBelow : ℕ → (ℕ → Type 0) → Type 0
HoldsBelow n P = (k : ℕ) → k < n → P k

-- it fails at a number below, and at none before
pub record FailsFirst (n : ℕ) (P : ℕ → Type 0) (k : ℕ) : Type 0 where
  pub below : k < n
  pub fails : P k → ⊥
  pub before : HoldsBelow k P

-- a search finds the first number below at which the condition fails, or nothing where there is none
abbrev pub FindsFirst : ℕ → (ℕ → Type 0) → Option ℕ → Type 0
FindsFirst n P o = MatchOption o (HoldsBelow n P) (FailsFirst n P)

-- a test tells whether a condition holds
abbrev pub Tells : Bool → Type 0 → Type 0
Tells b P = MatchBool b P (P → ⊥)
