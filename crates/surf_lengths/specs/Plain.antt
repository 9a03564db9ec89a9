-- Texts that begin with a plain line.
use Rattle.std.specs.Prelude.{◌≡◌, ℕ, List, ◌∷◌, ◌++◌, take, Some}
use Rattle.std.specs.List.{position_or_len}
use Rattle.surf_text.specs.Text.{is_line_end, short_whole, tokens_of, trimmed, uncommented}
use Rattle.surf_lengths.specs.Lines.{three_numbers}
use Rattle.surf_lengths.specs.declared.plain.PlainLine.{PlainLine}

-- The text is a number of 32 bits, this byte, and the rest.
pub record IsBefore (sign : ℕ) (text : List ℕ) (n : ℕ) (behind : List ℕ) : Type 0 where
  pub word : List ℕ
  pub short : short_whole word ≡ Some n
  pub is : text ≡ word ++ sign ∷ behind

-- The first line of the text has these numbers and nothing else.
pub record IsPlain (text : List ℕ) (line : PlainLine) : Type 0 where
  pub len : position_or_len is_line_end text ≡ line.len
  pub bytes : trimmed (uncommented (take line.len text)) ≡ take line.len text
  pub numbers : three_numbers (tokens_of (take line.len text)) ≡ Some (line.u, line.v, line.n)
