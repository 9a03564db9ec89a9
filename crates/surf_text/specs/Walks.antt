-- What a walk over lines or tokens is seen as.
use Rattle.std.specs.Prelude.{◌≡◌, ◌≤◌, ◌+◌, ℕ, Bool, true, false, List, [], ◌∷◌, length, take, drop, Option, Some, None}
use Rattle.std.specs.List.{slice_split}
use Rattle.std.specs.Borrow.{Bor}
use Rattle.surf_text.specs.Text.{TextLine, tokens_of, words_of, trimmed, uncommented, is_line_end, numbered_from}
use Rattle.surf_text.specs.declared.lines.Line.{Line}
use Rattle.surf_text.specs.declared.placed.PlacedLine.{PlacedLine}

-- a line of the code as a line of the text
abbrev pub text_line : Line → TextLine
text_line line = record { number = line.number; bytes = line.bytes.now }

abbrev pub placed_line : PlacedLine → TextLine
placed_line line = record { number = line.number; bytes = line.bytes.now }

-- a text, a place in it, and the number of the lines before that place
pub record PlacedWalk : Type 0 where
  pub text : List ℕ
  pub at : ℕ
  pub number : ℕ

-- the lines from the place on that have a token
abbrev pub lines_ahead : PlacedWalk → List TextLine
lines_ahead walk = numbered_from (walk.number + 1) (slice_split is_line_end (drop walk.at walk.text))

-- The second list stands in the first, from this place on.
pub record StandsAt (text part : List ℕ) (start : ℕ) : Type 0 where
  pub within : start + length part ≤ length text
  pub same : take (length part) (drop start text) ≡ part

-- the parts of what is left, if something is
abbrev pub parts_of : (ℕ → Bool) → Option (Bor (List ℕ)) → List (List ℕ)
parts_of test None = []
parts_of test (Some rest) = slice_split test rest.now

-- the tokens to come, and the bytes from the first of them to the last of the last
pub record TokenWalk : Type 0 where
  pub tokens : List (List ℕ)
  pub rest : List ℕ

-- all tokens of a line
abbrev pub walk_over : List ℕ → TokenWalk
walk_over line = record { tokens = tokens_of line; rest = trimmed (uncommented line) }

-- all words of a line, a comment sign being a byte as others are
abbrev pub walk_between_blanks : List ℕ → TokenWalk
walk_between_blanks line = record { tokens = words_of line; rest = trimmed line }

abbrev pub has_some : List (List ℕ) → Bool
has_some [] = false
has_some (token ∷ tokens) = true
