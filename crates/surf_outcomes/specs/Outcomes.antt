-- Words and files have an outcome.
use Rattle.std.specs.Prelude.{ℕ, List}
use Rattle.surf_base.specs.Outside.{Files}
use Rattle.surf_texts.specs.Outcome.{Outcome}
use Rattle.surf_run.specs.Leads.{Leads}

-- An outcome comes of any words over any files: an answer, a refusal, or that a named file is missing.
abbrev pub OutcomesExist : Type 0
OutcomesExist = (words : List (List ℕ)) (files : Files) → (outcome : Outcome) × Leads words files outcome
