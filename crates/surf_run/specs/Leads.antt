-- What comes of the words over named files, and with it what the program answers.
use Rattle.std.specs.Prelude.{ℕ, List}
use Rattle.surf_base.specs.Outside.{Files}
use Rattle.surf_texts.specs.Outcome.{Outcome, Shows}
use Rattle.surf_words.specs.Words.{request_of}
use Rattle.surf_answers.specs.Commands.{OnRequest}

-- what comes of these words over these files
unfoldable pub Leads : List (List ℕ) → Files → Outcome → Type 0
Leads words files outcome = OnRequest (request_of words) files outcome

-- The program answers this status, text and line.
abbrev pub Answer : List (List ℕ) → Files → ℕ → List ℕ → List ℕ → Type 0
Answer words files status text line = (outcome : Outcome) × Leads words files outcome × Shows outcome status text line
