-- Steps that come one after another: each goes on with a value, or stops with an outcome.
use Rattle.std.specs.Prelude.{◌≡◌, ◌<◌, ◌≤◌, ℕ, Result, Ok, Err}
use Rattle.surf_base.specs.declared.limits.LimitKind.{LimitKind}
use Rattle.surf_texts.specs.Limits.{beyond}
use Rattle.surf_texts.specs.Outcome.{Outcome}

-- The first step stops with the outcome; or it goes on, and the outcome comes of its value.
pub data Ends {A : Type 0} (first : Result A Outcome → Type 0) (second : A → Outcome → Type 0) (outcome : Outcome)
    : Type 0 where
  stops : first (Err outcome) → Ends first second outcome
  goes : (a : A) → first (Ok a) → second a outcome → Ends first second outcome

-- steps as lines of a `do`: one with a value, and one without
infixl 10 ◌>>=◌
abbrev pub ◌>>=◌ : {A : Type 0} → (Result A Outcome → Type 0) → (A → Outcome → Type 0) → Outcome → Type 0
first >>= second = Ends first second

infixl 10 ◌>>◌
abbrev pub ◌>>◌ : (Result (Unit {0}) Outcome → Type 0) → (Outcome → Type 0) → Outcome → Type 0
first >> second = Ends first (λ _. second)

-- A count is at most its limit.
abbrev pub AtMost : LimitKind → ℕ → ℕ → Result (Unit {0}) Outcome → Type 0
AtMost kind most count (Ok done) = count ≤ most
AtMost kind most count (Err outcome) = (most < count) × (outcome ≡ beyond kind)

-- what is read of what was read
abbrev pub and_then : {A B : Type 0} → (A → Result B Outcome) → Result A Outcome → Result B Outcome
and_then next (Ok value) = next value
and_then next (Err outcome) = Err outcome
