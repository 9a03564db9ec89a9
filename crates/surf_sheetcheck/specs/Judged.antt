-- What is told of the sheets, one after the other.
use Rattle.std.specs.Prelude.{◌≡◌, ◌≢◌, ℕ, ◌+◌, ◌<◌, length, Option, MatchOption}
use Rattle.surf_signatures.specs.Tables.{Signed}
use Rattle.surf_base.specs.Tables.{nobody}
use Rattle.surf_surfaces.specs.Surface.{edge_count, ends}
use Rattle.surf_treecheck.specs.First.{HoldsBelow}
use Rattle.surf_sheetcheck.specs.Parts.{sheet_at}
use Rattle.surf_sheetcheck.specs.Valid.{Holds}
use Rattle.surf_sheetcheck.specs.Faults.{IsShort, IsShortFirst}
use Rattle.surf_sheetcheck.specs.Serving.{AreLefts, IsLeft}
use Rattle.surf_sheetcheck.specs.declared.cases.SheetCase.{SheetCase}

-- the sheet at a place holds, and what it serves is taken out of what is left; or this is the least edge at which it
-- doesn't hold
pub record IsJudged (c : SheetCase) (n : ℕ) (left : Signed) (least : ℕ) : Type 0 where
  pub holds : least ≡ nobody → Holds c.mesh.now c.lengths.now c.cert.now n
  pub served : IsLeft c (n + 1) left
  pub short : least ≢ nobody → (distance : ℕ → ℕ) × (label : ℕ → ℕ)
      × IsShort c.mesh.now c.lengths.now c.cert.now (sheet_at c.cert.now n) distance label least

-- all sheets hold, and what they serve is taken out; or this is the first that doesn't, with the least edge there
abbrev pub IsFirstShort : SheetCase → Signed → Option (ℕ × ℕ) → Type 0
IsFirstShort c left found = MatchOption found
    (HoldsBelow (length c.cert.now.sheets) (Holds c.mesh.now c.lengths.now c.cert.now)
    × IsLeft c (length c.cert.now.sheets) left × AreLefts c left)
    (λ x. IsShortFirst c.mesh.now c.lengths.now c.cert.now x.0 (ends c.mesh.now x.1) × (x.1 < edge_count c.mesh.now))
