-- The sheets that a certificate says, and their parts.
use Rattle.std.specs.Prelude.{◌≡◌, ℕ, ◌+◌, ◌-◌, ◌*◌, ◌/◌, ◌<◌, ◌≤◌, ◌==◌, if◌then◌else◌, List, [], ◌∷◌, length, take, drop}
use Rattle.std.specs.Prelude.{slice_index_or, MatchBool}
use Rattle.surf_surfaces.specs.Mesh.{Mesh}
use Rattle.surf_surfaces.specs.Walk.{walk_length}
use Rattle.surf_sheets.specs.Rows.{SheetRow, SheetCert}

-- the cycle at a place
abbrev pub cycle_at : SheetCert → ℕ → List ℕ
cycle_at cert k = slice_index_or cert.cycles k []

-- how long it is
abbrev pub size_at : Mesh → List ℕ → SheetCert → ℕ → ℕ
size_at mesh lengths cert k = walk_length mesh lengths (cycle_at cert k)

-- no row
abbrev pub no_row : SheetRow
no_row = record { from = 0; to = 0; walk = 0; first = 0; last = 0; margin = 0 }

-- the sheet at a place
abbrev pub sheet_at : SheetCert → ℕ → SheetRow
sheet_at cert s = slice_index_or cert.sheets s no_row

-- a part of one vertex, which is told twice
pub record IsVertexPart (mesh : Mesh) (row : SheetRow) : Type 0 where
  pub twice : row.first ≡ row.last
  pub inside : row.first < mesh.vertices

-- two places of a walk in order, and what is between them
pub record IsWalkPart (cert : SheetCert) (row : SheetRow) : Type 0 where
  pub walk : row.walk ≤ length cert.cycles
  pub ordered : row.first ≤ row.last
  pub places : row.last < length (cycle_at cert (row.walk - 1))

-- a sheet has some numbers, each of which is that of a walk, and a part
pub record HasRowForm (mesh : Mesh) (cert : SheetCert) (row : SheetRow) : Type 0 where
  pub some : row.from < row.to
  pub numbered : row.to ≤ length cert.cycles
  pub part : MatchBool (row.walk == 0) (IsVertexPart mesh row) (IsWalkPart cert row)

abbrev pub HasForm : Mesh → SheetCert → ℕ → Type 0
HasForm mesh cert s = HasRowForm mesh cert (sheet_at cert s)

-- the vertices of the part, in the order of the walk
abbrev pub part_of : SheetCert → SheetRow → List ℕ
part_of cert row = if row.walk == 0 then row.first ∷ []
    else take (row.last + 1 - row.first) (drop row.first (cycle_at cert (row.walk - 1)))

-- how far from the part distances are told: half the length of the longest walk in the range and the way across the
-- margin and back, rounded up
abbrev pub limit_of : Mesh → List ℕ → SheetCert → SheetRow → ℕ
limit_of mesh lengths cert row = (size_at mesh lengths cert (row.to - 1) + 2 * row.margin + 1) / 2
