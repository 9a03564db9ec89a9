-- Copy lines of a text: comments `# copy i from v`, which say of which vertex each copy is.
use Rattle.std.specs.Prelude.{◌+◌, ◌^◌, ℕ, Bool, false, ◌==◌, ◌&&◌, nat_lt, List, [], ◌∷◌, length, codes}
use Rattle.std.specs.Prelude.{Option, Some, None, ok_or, Result, Ok, Err, if◌then◌else◌}
use Rattle.std.specs.List.{slice_split, filter}
use Rattle.std.specs.Str.{bytes_eq}
use Rattle.surf_base.specs.Gives.{◌>>=◌}
use Rattle.surf_text.specs.Text.{is_line_end, words_of, whole}
use Rattle.surf_sew.specs.declared.copies.CopyFault.{CopyFault}
use Rattle.surf_sew.specs.declared.copies.CopyFault.TheVariants.{CopyForm, CopyCount}

-- a line: its number in the text, and its words, a comment sign being a byte as others are
pub record WordLine : Type 0 where
  pub number : ℕ
  pub words : List (List ℕ)

-- the lines in order, the first of them numbered n
abbrev pub word_lines_from : ℕ → List (List ℕ) → List WordLine
word_lines_from n [] = []
word_lines_from n (line ∷ lines) = record { number = n; words = words_of line } ∷ word_lines_from (n + 1) lines

-- A copy line begins with the words # and copy.
abbrev pub is_copy : List (List ℕ) → Bool
is_copy [] = false
is_copy (sign ∷ []) = false
is_copy (sign ∷ word ∷ words) = bytes_eq sign (codes "#") && bytes_eq word (codes "copy")

-- those of the lines that are copy lines
abbrev pub copies_among : List WordLine → List WordLine
copies_among lines = filter (λ line. is_copy line.words) lines

-- the copy lines of a text
abbrev pub copy_lines : List ℕ → List WordLine
copy_lines text = copies_among (word_lines_from 1 (slice_split is_line_end text))

-- the vertex, where the copy is the one that is due and both are whole numbers, the vertex's of 32 bits
abbrev pub origin_at : ℕ → Option ℕ → Option ℕ → Option ℕ
origin_at place (Some i) (Some v) = if i == place && nat_lt v (2 ^ 32) then Some v else None
origin_at place (Some i) None = None
origin_at place None v = None

-- the vertex that the words `# copy i from v` name as the origin of the copy at a place
abbrev pub origin_of : ℕ → List (List ℕ) → Option ℕ
origin_of place (sign ∷ copy ∷ i ∷ from ∷ v ∷ []) =
    if bytes_eq from (codes "from") then origin_at place (whole i) (whole v) else None
origin_of place _ = None

-- the origins that copy lines name, the first of them that of the copy at a place, or the first line that hasn't the
-- form
unfoldable pub origins_from : ℕ → List WordLine → Result (List ℕ) CopyFault
origins_from place [] = Ok []
origins_from place (line ∷ lines) = do
  v ← ok_or (origin_of place line.words) (CopyForm line.number)
  later ← origins_from (place + 1) lines
  Ok (v ∷ later)

-- as many as there are copies
abbrev pub counted : ℕ → List ℕ → Result (List ℕ) CopyFault
counted count origins = if length origins == count then Ok origins else Err (CopyCount (length origins))

-- the origins of so many copies that the copy lines of a text name, or the first fault
abbrev pub copies_in : List ℕ → ℕ → Result (List ℕ) CopyFault
copies_in text count = origins_from 0 (copy_lines text) >>= counted count
