-- What a line of a length file says.
use Rattle.std.specs.Prelude.{ℕ, Bool, false, ◌&&◌, nat_le, List, [], ◌∷◌, codes, Option, Some, None, ok_or, Result, Ok}
use Rattle.std.specs.Prelude.{if◌then◌else◌}
use Rattle.std.specs.Str.{bytes_eq}
use Rattle.surf_base.specs.Gives.{◌>>=◌}
use Rattle.surf_text.specs.Text.{TextLine, tokens_of, whole}
use Rattle.surf_surfaces.specs.Mesh.{Mesh, pair, among, edges}
use Rattle.surf_surfaces.specs.Walk.{edge_number}
use Rattle.surf_lengths.specs.Lengths.{longest}
use Rattle.surf_lengths.specs.declared.fault.LengthFault.{LengthFault}
use Rattle.surf_lengths.specs.declared.fault.LengthFault.TheVariants.{Form, Range, NotEdge}

-- the number as a length, if it is one
abbrev pub as_length : ℕ → Option ℕ
as_length n = if nat_le 1 n && nat_le n longest then Some n else None

abbrev pub all_whole : Option ℕ → Option ℕ → Option ℕ → Option (ℕ × ℕ × ℕ)
all_whole (Some u) (Some v) (Some n) = Some (u, v, n)
all_whole _ _ _ = None

-- exactly three tokens that are whole numbers
abbrev pub three_numbers : List (List ℕ) → Option (ℕ × ℕ × ℕ)
three_numbers (u ∷ v ∷ n ∷ []) = all_whole (whole u) (whole v) (whole n)
three_numbers _ = None

-- the edge between two vertices, the lesser or the greater first
abbrev pub edge_named : Mesh → ℕ → ℕ → Option ℕ
edge_named mesh u v = if among (pair u v) (edges mesh) then Some (edge_number mesh (u, v)) else None

-- a line with these numbers: the edge and its length, or the first of the faults Range and NotEdge
abbrev pub of_numbers : Mesh → ℕ → ℕ × ℕ × ℕ → Result (ℕ × ℕ) LengthFault
of_numbers mesh line x = do
  n ← ok_or (as_length x.2) (Range line)
  e ← ok_or (edge_named mesh x.0 x.1) (NotEdge line)
  Ok (e, n)

-- a line `u v n`, or the fault Form
abbrev pub entry_of : Mesh → TextLine → Result (ℕ × ℕ) LengthFault
entry_of mesh line = ok_or (three_numbers (tokens_of line.bytes)) (Form line.number) >>= of_numbers mesh line.number

-- whether the first token is a word
abbrev pub begins_with : List ℕ → List (List ℕ) → Bool
begins_with word [] = false
begins_with word (token ∷ tokens) = bytes_eq token word

-- exactly the tokens SURFLEN and 2
abbrev pub is_version : List (List ℕ) → Bool
is_version (name ∷ version ∷ []) = bytes_eq name (codes "SURFLEN") && bytes_eq version (codes "2")
is_version _ = false

-- the second of exactly two tokens, as a whole number
abbrev pub second_number : List (List ℕ) → Option ℕ
second_number (word ∷ n ∷ []) = whole n
second_number _ = None

-- a line `default n`: the number, or the first of the faults Form and Range
abbrev pub default_of : TextLine → Result ℕ LengthFault
default_of line = do
  n ← ok_or (second_number (tokens_of line.bytes)) (Form line.number)
  ok_or (as_length n) (Range line.number)
