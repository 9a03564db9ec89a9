-- Certificates of bases by sheets whose lists fit the lines of a text.
use Rattle.std.specs.Prelude.{◌≡◌, ◌<◌, ◌≤◌, ◌^◌, ℕ, List, [], length}
use Rattle.std.specs.List.{All, AllPairs}
use Rattle.surf_sheets.specs.Rows.{SheetRow, SheetCert}
use Rattle.surf_records.specs.Fits.{IsNumber, CycleFits, LeftFits}

-- at least one number, each from 1 to k, and each less than all later ones
pub record NumbersFit (k : ℕ) (numbers : List ℕ) : Type 0 where
  pub some : 1 ≤ length numbers
  pub each : All (λ i. (1 ≤ i) × (i ≤ k)) numbers
  pub rises : AllPairs (λ i j. i < j) numbers

-- five numbers, and a whole margin
pub record SheetFits (sheet : SheetRow) : Type 0 where
  pub from : IsNumber sheet.from
  pub to : IsNumber sheet.to
  pub walk : IsNumber sheet.walk
  pub first : IsNumber sheet.first
  pub last : IsNumber sheet.last
  pub margin : sheet.margin < 2 ^ 64

-- as many rows of numbers as edges; without cycles there are neither edges nor sheets
pub record SheetCertFits (cert : SheetCert) : Type 0 where
  pub vertices : IsNumber cert.vertices
  pub faces : IsNumber cert.faces
  pub count : IsNumber (length cert.cycles)
  pub cycles : All CycleFits cert.cycles
  pub edge_count : IsNumber (length cert.edges)
  pub edges : LeftFits (length cert.edges) cert.edges
  pub as_many : length cert.numbers ≡ length cert.edges
  pub numbers : All (NumbersFit (length cert.cycles)) cert.numbers
  pub sheet_count : IsNumber (length cert.sheets)
  pub sheets : All SheetFits cert.sheets
  pub none : cert.cycles ≡ [] → (cert.edges ≡ []) × (cert.sheets ≡ [])
