-- Certificates of bases by sheets, as records of plain lists. Walks and cocycles are numbered from 1.
use Rattle.std.specs.Prelude.{ℕ, List}

-- a sheet, as a certificate says it: its numbers are those past `from` up to `to`, its part is the walk with the number
-- `walk` from its place `first` to its place `last`, or, where that number is 0, the vertex `first`
pub record SheetRow : Type 0 where
  pub from : ℕ
  pub to : ℕ
  pub walk : ℕ
  pub first : ℕ
  pub last : ℕ
  pub margin : ℕ

-- what shows by sheets that cycles are a least basis: how many vertices and faces the mesh has, the cycles, each edge of
-- a cocycle as the pair of its ends, the numbers of its cocycles, and the sheets
pub record SheetCert : Type 0 where
  pub vertices : ℕ
  pub faces : ℕ
  pub cycles : List (List ℕ)
  pub edges : List (ℕ × ℕ)
  pub numbers : List (List ℕ)
  pub sheets : List SheetRow
