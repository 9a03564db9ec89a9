-- How what a function answers stands to a step or an end, which words and files decide.
use Rattle.std.specs.Prelude.{◌⊎◌, ℕ, Option, Some, None, Result, Ok, Err, IfSome}
use Rattle.surf_base.specs.Outside.{Files, HasRisen}
use Rattle.surf_texts.specs.Outcome.{Outcome, answers, misses}
use Rattle.surf_texts.specs.Cause.{Cause, due, unread, starved}
use Rattle.surf_texts.specs.Refusals.{cause_of}
use Rattle.surf_answers.specs.declared.answered.Answered.{Answered}
use Rattle.surf_answers.specs.declared.answered.Verdict.{Verdict}
use Rattle.surf_answers.specs.declared.answered.Verdict.TheVariants.{Yes, No}
use Rattle.surf_texts.specs.declared.refusal.Refused.{Refused}

-- It is told what is held, and this is so of it.
abbrev pub IsTold : Option Files → (Files → Type 0) → Type 0
IsTold None Q = ⊥
IsTold (Some files) Q = Q files

-- the status of a verdict
abbrev pub verdict_status : Verdict → ℕ
verdict_status Yes = 0
verdict_status No = 1

-- A function that reads no file refuses so: the step ends in what is due.
abbrev pub Why : (Outcome → Type 0) → Cause → Type 0
Why ended (due outcome) = ended outcome
Why ended unread = ⊥
Why ended starved = Unit {0}

-- A function that reads no file takes a step, unless memory ran out.
abbrev pub Takes : {T A : Type 0} → (T → A) → (Result A Outcome → Type 0) → Result T Refused → Type 0
Takes view step (Ok x) = step (Ok (view x))
Takes view step (Err e) = Why (λ outcome. step (Err outcome)) (cause_of e)

-- A function that reads no file comes to an end, unless memory ran out.
abbrev pub Concludes : (Outcome → Type 0) → Result Answered Refused → Type 0
Concludes end (Ok a) = end (answers (verdict_status a.verdict) a.text.items)
Concludes end (Err e) = Why end (cause_of e)

-- A function that reads files refuses so, wherever it is told what they hold. A read that failed is a fault that was
-- counted, or a file that isn't there.
abbrev pub WhyOver : Option Files → ℕ → ℕ → (Files → Outcome → Type 0) → Cause → Type 0
WhyOver holds old new ended (due outcome) = IfSome holds (λ files. ended files outcome)
WhyOver holds old new ended unread = HasRisen old new ⊎ IsTold holds (λ files. ended files misses)
WhyOver holds old new ended starved = Unit {0}

-- A function that reads files takes a step, wherever it is told what they hold.
abbrev pub TakesOver : {T A : Type 0} → Option Files → ℕ → ℕ → (T → A) → (Files → Result A Outcome → Type 0) →
    Result T Refused → Type 0
TakesOver holds old new view step (Ok x) = IfSome holds (λ files. step files (Ok (view x)))
TakesOver holds old new view step (Err e) =
    WhyOver holds old new (λ files outcome. step files (Err outcome)) (cause_of e)

-- A function that reads files comes to an end, wherever it is told what they hold.
abbrev pub ConcludesOver : Option Files → ℕ → ℕ → (Files → Outcome → Type 0) → Result Answered Refused → Type 0
ConcludesOver holds old new end (Ok a) =
    IfSome holds (λ files. end files (answers (verdict_status a.verdict) a.text.items))
ConcludesOver holds old new end (Err e) = WhyOver holds old new end (cause_of e)
