-- What the lines of a certificate by sheets say, by their tokens.
use Rattle.std.specs.Prelude.{ℕ, Bool, true, ◌&&◌, nat_le, nat_lt, List, [], ◌∷◌, codes, Option, Some, None}
use Rattle.std.specs.Prelude.{if◌then◌else◌, option_and_then}
use Rattle.std.specs.Cmp.Lexicographic.{pointwise}
use Rattle.std.specs.Str.{bytes_eq}
use Rattle.surf_text.specs.Text.{whole, is_nonempty}
use Rattle.surf_sheets.specs.Rows.{SheetRow}
use Rattle.surf_cert.specs.Lines.{cert_number, is_next, numbers_of}

-- exactly the tokens SURFCERT, 2 and a word
abbrev pub is_second_header : List ℕ → List (List ℕ) → Bool
is_second_header word tokens = pointwise bytes_eq tokens (codes "SURFCERT" ∷ codes "2" ∷ word ∷ [])

-- exactly the tokens SURFCERT, 2 and basis
abbrev pub is_sheet_header : List (List ℕ) → Bool
is_sheet_header tokens = is_second_header (codes "basis") tokens

-- a line of a word and a count
abbrev pub count_of : List ℕ → List (List ℕ) → Option ℕ
count_of word (token ∷ n ∷ []) = if bytes_eq token word then cert_number n else None
count_of word _ = None

-- whether numbers rise, each being above the one before and at most k
unfoldable pub rises : ℕ → ℕ → List ℕ → Bool
rises before k [] = true
rises before k (i ∷ is) = nat_lt before i && nat_le i k && rises i k is

-- an edge with the numbers of its cocycles
abbrev pub Cocycles : Type 0
Cocycles = (ℕ × ℕ) × List ℕ

-- numbers `u v i1 i2 ..` with u < v, behind the edge of the line before, and at least one number of a cocycle: these
-- rise from 1 to k
abbrev pub cocycles_among : ℕ → Option (ℕ × ℕ) → List ℕ → Option Cocycles
cocycles_among k before (u ∷ v ∷ row) =
    if nat_lt u v && is_next before (u, v) && is_nonempty row && rises 0 k row then Some ((u, v), row) else None
cocycles_among k before _ = None

-- a line of such numbers
abbrev pub cocycles_on : ℕ → Option (ℕ × ℕ) → List (List ℕ) → Option Cocycles
cocycles_on k before tokens = option_and_then (cocycles_among k before) (numbers_of tokens)

abbrev pub six_numbers : Option ℕ → Option ℕ → Option ℕ → Option ℕ → Option ℕ → Option ℕ → Option SheetRow
six_numbers (Some f) (Some g) (Some w) (Some a) (Some b) (Some m) =
    Some (record { from = f; to = g; walk = w; first = a; last = b; margin = m })
six_numbers _ _ _ _ _ _ = None

-- a line `f g w a b m`: five numbers, and a margin, which is any whole number
abbrev pub sheet_on : List (List ℕ) → Option SheetRow
sheet_on (f ∷ g ∷ w ∷ a ∷ b ∷ m ∷ []) =
    six_numbers (cert_number f) (cert_number g) (cert_number w) (cert_number a) (cert_number b) (whole m)
sheet_on _ = None
