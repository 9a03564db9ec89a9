-- Words and files have one answer.
use Rattle.std.specs.Prelude.{◌≡◌, ℕ, List}
use Rattle.surf_base.specs.Outside.{Files}
use Rattle.surf_run.specs.Leads.{Answer, Leads}
use Rattle.surf_texts.specs.Outcome.{Outcome}

-- At most one outcome comes of words over files.
abbrev pub OutcomesAreOne : Type 0
OutcomesAreOne =
    (words : List (List ℕ)) (files : Files) (outcome other : Outcome) → Leads words files outcome →
    Leads words files other →
    outcome ≡ other

-- Words and files give at most one status, one text and one line.
abbrev pub AnswersAreOne : Type 0
AnswersAreOne =
    (words : List (List ℕ)) (files : Files) (status other : ℕ) (text line other_text other_line : List ℕ) →
    Answer words files status text line → Answer words files other other_text other_line →
    (status ≡ other) × (text ≡ other_text) × (line ≡ other_line)
