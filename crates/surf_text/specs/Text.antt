-- Lines, tokens and whole numbers of a text, as lists of bytes.
use Rattle.std.specs.Prelude.{◌^◌, ◌+◌, ◌-◌, ◌*◌, ℕ, zero, suc, Bool, true, false, ◌==◌, ◌||◌, ◌&&◌, nat_lt, not, List, []}
use Rattle.std.specs.Prelude.{◌∷◌, drop, Option, Some, None, if◌then◌else◌}
use Rattle.std.specs.Char.{is_ascii_digit}
use Rattle.std.specs.List.{slice_split, before_first, position_or_len, filter, list_all, fold}

-- a space, a tab or a carriage return
abbrev pub is_blank : ℕ → Bool
is_blank b = b == 32 || b == 9 || b == 13

abbrev pub is_line_end : ℕ → Bool
is_line_end b = b == 10

abbrev pub is_comment_sign : ℕ → Bool
is_comment_sign b = b == 35

abbrev pub is_nonempty : List ℕ → Bool
is_nonempty [] = false
is_nonempty (b ∷ bs) = true

-- what stands before a comment
abbrev pub uncommented : List ℕ → List ℕ
uncommented line = before_first is_comment_sign line

-- the longest runs of bytes that aren't blank
abbrev pub words_of : List ℕ → List (List ℕ)
words_of bytes = filter is_nonempty (slice_split is_blank bytes)

-- the tokens of a line: the longest runs of bytes that are neither blank nor part of a comment
abbrev pub tokens_of : List ℕ → List (List ℕ)
tokens_of line = words_of (uncommented line)

-- without the blanks before the first word
abbrev pub trimmed_front : List ℕ → List ℕ
trimmed_front [] = []
trimmed_front (b ∷ bs) = if is_blank b then trimmed_front bs else b ∷ bs

-- A blank stays only before something.
abbrev pub before_some : ℕ → List ℕ → List ℕ
before_some b [] = if is_blank b then [] else b ∷ []
before_some b (c ∷ cs) = b ∷ c ∷ cs

-- without the blanks behind the last word
abbrev pub trimmed_back : List ℕ → List ℕ
trimmed_back [] = []
trimmed_back (b ∷ bs) = before_some b (trimmed_back bs)

-- from the first byte of the first word to the last byte of the last
abbrev pub trimmed : List ℕ → List ℕ
trimmed bytes = trimmed_back (trimmed_front bytes)

-- From the first byte of a word on: what stands from the first byte of the next word on.
abbrev pub behind_word : List ℕ → List ℕ
behind_word bytes = trimmed_front (drop (position_or_len is_blank bytes) bytes)

-- the same behind so many words
abbrev pub behind_words : ℕ → List ℕ → List ℕ
behind_words zero bytes = bytes
behind_words (suc n) bytes = behind_words n (behind_word bytes)

-- What stands on a line behind so many tokens, from the first byte of the next token to the last of the last.
abbrev pub rest_after : ℕ → List ℕ → List ℕ
rest_after n line = behind_words n (trimmed (uncommented line))

-- a line that has a token: its number, and its bytes from the first token's first to the last token's last
pub record TextLine : Type 0 where
  pub number : ℕ
  pub bytes : List ℕ

-- A line goes in front of others if it has a token.
abbrev pub onto_lines : TextLine → List (List ℕ) → List TextLine → List TextLine
onto_lines line [] lines = lines
onto_lines line (token ∷ tokens) lines = line ∷ lines

-- the lines that have a token, the first of all numbered n
abbrev pub numbered_from : ℕ → List (List ℕ) → List TextLine
numbered_from n [] = []
numbered_from n (line ∷ lines) =
    onto_lines (record { number = n; bytes = trimmed (uncommented line) }) (tokens_of line)
    (numbered_from (n + 1) lines)

-- the lines of a text that have a token
abbrev pub lines_of : List ℕ → List TextLine
lines_of text = numbered_from 1 (slice_split is_line_end text)

-- the number that digits stand for
abbrev pub value_of : List ℕ → ℕ
value_of digits = fold (λ n b. n * 10 + (b - 48)) 0 digits

-- the whole number that a token is, if it has digits alone and is below 2 ^ 64
abbrev pub whole : List ℕ → Option ℕ
whole token =
    if is_nonempty token && list_all is_ascii_digit token && nat_lt (value_of token) (2 ^ 64)
    then Some (value_of token)
    else None

abbrev pub is_no_digit : ℕ → Bool
is_no_digit b = not (is_ascii_digit b)

-- the digits in front
abbrev pub front_digits : List ℕ → List ℕ
front_digits bytes = before_first is_no_digit bytes

-- a number, if it is below a bound
abbrev pub below : ℕ → Option ℕ → Option ℕ
below bound None = None
below bound (Some n) = if nat_lt n bound then Some n else None

-- the whole number of 32 bits that a token is, if it is one
abbrev pub short_whole : List ℕ → Option ℕ
short_whole token = below (2 ^ 32) (whole token)
