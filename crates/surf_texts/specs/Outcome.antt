-- What comes of a command over named files.
use Rattle.std.specs.Prelude.{◌≡◌, ℕ, List, []}

pub data Outcome : Type 0 where
  -- a status, 0 or 1, and the text that goes to the output
  answers : ℕ → List ℕ → Outcome
  -- a status from 2 on, and the line that goes to the diagnostics
  refuses : ℕ → List ℕ → Outcome
  -- a file is reached that isn't there
  misses : Outcome

-- the status of an outcome; where a file is missing, that of a read that failed
abbrev pub status_of : Outcome → ℕ
status_of (answers status text) = status
status_of (refuses status line) = status
status_of misses = 9

-- the outcome is this status with this text and this line, one of which is empty
abbrev pub Shows : Outcome → ℕ → List ℕ → List ℕ → Type 0
Shows (answers due said) status text line = (status ≡ due) × (text ≡ said) × (line ≡ [])
Shows (refuses due said) status text line = (status ≡ due) × (text ≡ []) × (line ≡ said)
Shows misses status text line = ⊥
