-- What a length file says.
use Rattle.std.specs.Prelude.{ℕ, ◌==◌, List, [], ◌∷◌, codes, replicate, slice_index, slice_set, Option}
use Rattle.std.specs.Prelude.{Some, None, is_some, Result, Ok, Err, unwrap_or, if◌then◌else◌}
use Rattle.std.specs.List.{fold, position}
use Rattle.surf_base.specs.Gives.{◌>>=◌}
use Rattle.surf_text.specs.Text.{TextLine, tokens_of, lines_of}
use Rattle.surf_surfaces.specs.Mesh.{Mesh}
use Rattle.surf_surfaces.specs.Surface.{edge_count, ends}
use Rattle.surf_lengths.specs.Lines.{entry_of, begins_with, is_version, default_of}
use Rattle.surf_lengths.specs.declared.fault.LengthFault.{LengthFault}
use Rattle.surf_lengths.specs.declared.fault.LengthFault.TheVariants.{Form, Twice, Missing}

-- the length of the edges without a line, where the file has one, and the lines that name edges
pub record Head : Type 0 where
  pub default : Option ℕ
  pub entries : List TextLine

-- behind the first line of version 2: only the next line may be a default
abbrev pub behind_version : List TextLine → Result Head LengthFault
behind_version [] = Ok (record { default = None; entries = [] })
behind_version (line ∷ rest) =
    if begins_with (codes "default") (tokens_of line.bytes)
    then (default_of line >>= λ n. Ok (record { default = Some n; entries = rest }))
    else Ok (record { default = None; entries = line ∷ rest })

-- A file whose first line begins with SURFLEN is of version 2, and that line is then exactly SURFLEN 2. Every
-- other file is of version 1.
abbrev pub length_head : List TextLine → Result Head LengthFault
length_head [] = Ok (record { default = None; entries = [] })
length_head (line ∷ rest) =
    if begins_with (codes "SURFLEN") (tokens_of line.bytes)
    then (if is_version (tokens_of line.bytes) then behind_version rest else Err (Form line.number))
    else Ok (record { default = None; entries = line ∷ rest })

-- for each edge its length so far, and the number of the line that names it, or 0
pub record Named : Type 0 where
  pub lengths : List ℕ
  pub lines : List ℕ

-- no edge has a line yet: each has the default, or 0 where there is none
abbrev pub none_named : Mesh → Option ℕ → Named
none_named mesh default =
    record { lengths = replicate (edge_count mesh) (unwrap_or default 0); lines = replicate (edge_count mesh) 0 }

-- A line names an edge that no earlier line names.
abbrev pub name_edge : Named → ℕ → ℕ × ℕ → Result Named LengthFault
name_edge named line x =
    if slice_index named.lines x.0 == 0
    then Ok (record { lengths = slice_set named.lengths x.0 x.1; lines = slice_set named.lines x.0 line })
    else Err (Twice line (slice_index named.lines x.0))

-- one line more, where none was faulty
unfoldable pub name_line : Mesh → Result Named LengthFault → TextLine → Result Named LengthFault
name_line mesh read line = read >>= λ named. entry_of mesh line >>= name_edge named line.number

-- after the last line no edge may be missing
abbrev pub all_named : Mesh → Named → Option ℕ → Result (List ℕ) LengthFault
all_named mesh named None = Ok named.lengths
all_named mesh named (Some e) = Err (Missing (ends mesh e).0 (ends mesh e).1)

-- where there is no default, the least edge without a line
abbrev pub missing_edge : Option ℕ → List ℕ → Option ℕ
missing_edge default lines = if is_some default then None else position (λ line. line == 0) lines

-- the lengths that a text gives to the edges of a mesh, or the first fault
abbrev pub lengths_in : Mesh → List ℕ → Result (List ℕ) LengthFault
lengths_in mesh text = do
  head ← length_head (lines_of text)
  named ← fold (name_line mesh) (Ok (none_named mesh head.default)) head.entries
  all_named mesh named (missing_edge head.default named.lines)
