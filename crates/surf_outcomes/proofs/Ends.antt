-- Steps that have a result, and what comes of them.
use Rattle.surf_surfaces.proofs.Common.{◌≡◌, ◌≤◌, ℕ, List, Result, Ok, Err, refl, inl, inr, cases_lt}
use Rattle.surf_base.specs.declared.limits.LimitKind.{LimitKind}
use Rattle.surf_texts.specs.Limits.{beyond}
use Rattle.surf_texts.specs.Outcome.{Outcome}
use Rattle.surf_answers.specs.Says.{Says}
use Rattle.surf_answers.specs.Steps.{AtMost, Ends, goes, stops}

-- an outcome comes of it
abbrev pub HasOutcome : (Outcome → Type 0) → Type 0
HasOutcome end = (outcome : Outcome) × end outcome

-- the step goes on with a value, or stops with an outcome
abbrev pub HasResult : {A : Type 0} → (Result A Outcome → Type 0) → Type 0
HasResult {A} step = (result : Result A Outcome) × step result

pub then_ends : {A : Type 0} {first : Result A Outcome → Type 0} {second : A → Outcome → Type 0} → HasResult first →
    ((a : A) → first (Ok a) → HasOutcome (second a)) → HasOutcome (Ends first second)
then_ends (Err outcome, is) rest = (outcome, stops is)
then_ends (Ok a, is) rest = let end = rest a is in (end.0, goes a is end.1)

-- a stated result
pub stated : {A : Type 0} (r : Result A Outcome) → HasResult (λ result. result ≡ r)
stated r = (r, refl)

-- a count is at most its limit, or greater
pub limited : (kind : LimitKind) (most count : ℕ) → HasResult (AtMost kind most count)
limited kind most count = elim (cases_lt most count) [
  | inl more ↦ (Err (beyond kind), (more, refl))
  | inr few ↦ (Ok tt, few)
]

-- a limit, and what follows within it
pub within : {second : Outcome → Type 0} (kind : LimitKind) (most count : ℕ) → (count ≤ most → HasOutcome second) →
    HasOutcome (Ends (AtMost kind most count) (λ _. second))
within kind most count rest = then_ends (limited kind most count) (λ _ few. rest few)

-- a text is said
pub said : (text : List ℕ) → HasOutcome (Says text)
said text = (_, refl)
