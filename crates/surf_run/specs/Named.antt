-- The files that words name. What the program answers depends on what these hold and on no other file.
use Rattle.std.specs.Prelude.{◌≡◌, ℕ, List, All}
use Rattle.surf_base.specs.Outside.{Files, bytes_of}
use Rattle.surf_texts.specs.Outcome.{Outcome}
use Rattle.surf_words.specs.Words.{request_of}
use Rattle.surf_answers.specs.Commands.{named}
use Rattle.surf_run.specs.Leads.{Leads}

-- the files of these names are the same here and there
abbrev pub AgreeOn : List (List ℕ) → Files → Files → Type 0
AgreeOn names here there = All (λ name. bytes_of here name ≡ bytes_of there name) names

-- What comes of words depends on the files that they name, and on no other.
abbrev pub AnswersDependOnNamedFiles : Type 0
AnswersDependOnNamedFiles =
    (words : List (List ℕ)) (here there : Files) → AgreeOn (named (request_of words)) here there → (outcome : Outcome) →
    Leads words here outcome → Leads words there outcome
