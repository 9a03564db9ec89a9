-- Why there is no answer: what words and files decide, a read that failed, or want of memory.
use Rattle.std.specs.Prelude.{ℕ, List, [], Option, Some, None, Result, Ok, Err, codes}
use Prim.Native.String.{String as Literal}
use Rattle.surf_text.specs.Numbers.{numbered}
use Rattle.surf_texts.specs.Outcome.{Outcome, answers, refuses, misses, status_of}

pub data Cause : Type 0 where
  -- the words and the files decide it
  due : Outcome → Cause
  -- a file could not be read
  unread : Cause
  -- there was no memory
  starved : Cause

-- what is due. No definition decides on a read that failed or on want of memory
abbrev pub outcome_of : Cause → Outcome
outcome_of (due outcome) = outcome
outcome_of other = misses

-- what was read, or what comes of its fault
abbrev pub refused_by : {A E : Type 0} → (E → Cause) → Result A E → Result A Outcome
refused_by cause (Ok value) = Ok value
refused_by cause (Err fault) = Err (outcome_of (cause fault))

-- a fault that is told with a status in words and numbers
abbrev pub told : ℕ → Literal → List ℕ → Cause
told status words numbers = due (refuses status (numbered (codes words) numbers))

-- a fault that has a status and a line of its own, or none of its own where there was no memory
abbrev pub told_with : ℕ → Option (List ℕ) → Cause
told_with status (Some line) = due (refuses status line)
told_with status None = starved

-- the line of an outcome, if it has one
abbrev pub said : Outcome → List ℕ
said (answers status text) = []
said (refuses status line) = line
said misses = []

abbrev pub line_of : Cause → List ℕ
line_of (due outcome) = said outcome
line_of unread = codes "read fault\n"
line_of starved = codes "memory\n"

abbrev pub status_of_cause : Cause → ℕ
status_of_cause (due outcome) = status_of outcome
status_of_cause unread = 9
status_of_cause starved = 11

-- the words are in no row of the command table
abbrev pub misused : Outcome
misused = refuses 2 (codes "usage: the words are in no row of the command table\n")
