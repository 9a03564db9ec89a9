-- What is known of lines that name edges by a table with the length of each edge, or 0 where no line names it yet.
use Rattle.std.specs.Prelude.{◌≡◌, ◌≢◌, ◌<◌, ◌≤◌, ◌==◌, ℕ, List, ◌∷◌, ◌++◌, length, slice_index, Option, Ok, unwrap_or, if◌then◌else◌}
use Rattle.std.specs.List.{AllByRecursion, fold}
use Rattle.surf_text.specs.Text.{TextLine}
use Rattle.surf_surfaces.specs.Mesh.{Mesh}
use Rattle.surf_surfaces.specs.Surface.{edge_count}
use Rattle.surf_lengths.specs.Lines.{entry_of}
use Rattle.surf_lengths.specs.Files.{Named, none_named, name_line}

-- a line without fault that names another edge
pub record NamesOther (mesh : Mesh) (e : ℕ) (line : TextLine) : Type 0 where
  pub entry : ℕ × ℕ
  pub said : entry_of mesh line ≡ Ok entry
  pub other : entry.0 ≢ e

-- the number of the first line that names an edge; no line before it is faulty
pub record IsFirstNaming (mesh : Mesh) (e : ℕ) (lines : List TextLine) (number : ℕ) : Type 0 where
  pub front : List TextLine
  pub line : TextLine
  pub rest : List TextLine
  pub parts : lines ≡ front ++ line ∷ rest
  pub before : AllByRecursion (NamesOther mesh e) front
  pub size : ℕ
  pub said : entry_of mesh line ≡ Ok (e, size)
  pub number_is : line.number ≡ number
  pub positive : 1 ≤ number

-- a length, or the default where there is none
abbrev pub length_or : Option ℕ → ℕ → ℕ
length_or default n = if n == 0 then unwrap_or default 0 else n

-- the one table says what the two say
pub record IsTableOf (mesh : Mesh) (default : Option ℕ) (named : Named) (table : List ℕ) : Type 0 where
  pub sized : length table ≡ edge_count mesh
  pub lengths_sized : length named.lengths ≡ edge_count mesh
  pub lines_sized : length named.lines ≡ edge_count mesh
  pub none : (e : ℕ) → e < edge_count mesh → (slice_index table e == 0) ≡ (slice_index named.lines e == 0)
  pub lengths : (e : ℕ) → e < edge_count mesh → slice_index named.lengths e ≡ length_or default (slice_index table e)

-- no line is faulty, and the table is that of all of them
pub record AreNamed (mesh : Mesh) (default : Option ℕ) (lines : List TextLine) (table : List ℕ) : Type 0 where
  pub named : Named
  pub read : fold (name_line mesh) (Ok (none_named mesh default)) lines ≡ Ok named
  pub table_of : IsTableOf mesh default named table
