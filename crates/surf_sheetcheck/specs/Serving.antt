-- What is left of the edges to be served.
use Rattle.std.specs.Prelude.{◌≡◌, ℕ, ◌<◌, ◌≤◌, ◌⊎◌, ◌==◌, true, false, if◌then◌else◌, length}
use Rattle.surf_z2.specs.Sieve.{has}
use Rattle.surf_signatures.specs.Tables.{Signed}
use Rattle.surf_base.specs.Tables.{at, nobody}
use Rattle.surf_surfaces.specs.Surface.{edge_count, ends}
use Rattle.surf_sheets.specs.Rows.{SheetRow}
use Rattle.surf_sheetcheck.specs.Cocycles.{cocycle}
use Rattle.surf_sheetcheck.specs.Valid.{IsServedBy}
use Rattle.surf_sheetcheck.specs.Tables.{IsCleared}
use Rattle.surf_sheetcheck.specs.declared.cases.SheetCase.{SheetCase}

-- there is a set for each row of numbers
pub record AreLefts (c : SheetCase) (left : Signed) : Type 0 where
  pub width : left.width ≡ length c.cert.now.cycles
  pub room : length left.sets ≡ length c.cert.now.edges

-- the set of an edge, or the empty one where it has no numbers
abbrev pub left_of : SheetCase → Signed → ℕ → ℕ
left_of c left e = if at c.slots.items e == nobody then 0 else at left.sets (at c.slots.items e)

-- the numbers of a sheet are taken out of what is left of an edge
abbrev pub IsTaken : SheetCase → SheetRow → Signed → Signed → ℕ → Type 0
IsTaken c row old new e = IsCleared row.from row.to (left_of c old e) (left_of c new e)

-- it keeps what is left of it
abbrev pub IsKept : SheetCase → Signed → Signed → ℕ → Type 0
IsKept c old new e = left_of c new e ≡ left_of c old e

-- an end of an edge is within the margin
abbrev pub IsNearBy : SheetCase → SheetRow → (ℕ → ℕ) → ℕ → Type 0
IsNearBy c row distance e = (distance (ends c.mesh.now e).0 ≤ row.margin) ⊎ (distance (ends c.mesh.now e).1 ≤ row.margin)

-- what is left of each edge are the cocycles that it is in for which none of the first n sheets serves it
pub record IsLeft (c : SheetCase) (n : ℕ) (left : Signed) : Type 0 where
  pub gone : (e i : ℕ) → e < edge_count c.mesh.now → cocycle c.mesh.now c.cert.now i e ≡ true →
      has (left_of c left e) i ≡ false → IsServedBy c.mesh.now c.lengths.now c.cert.now n i e
  pub kept : (e i : ℕ) → e < edge_count c.mesh.now → has (left_of c left e) i ≡ true →
      (cocycle c.mesh.now c.cert.now i e ≡ true) × (IsServedBy c.mesh.now c.lengths.now c.cert.now n i e → ⊥)
