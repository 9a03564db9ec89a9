-- When a certificate of a basis by sheets is valid for a mesh and lengths.
use Rattle.std.specs.Prelude.{◌≡◌, ℕ, ◌+◌, ◌-◌, ◌*◌, ◌<◌, ◌≤◌, ◌⊎◌, true, false, List, length, map, sum}
use Rattle.surf_z2.specs.Sieve.{has}
use Rattle.surf_surfaces.specs.Mesh.{Mesh}
use Rattle.surf_surfaces.specs.Surface.{face_count, edge_count, ends}
use Rattle.surf_surfaces.specs.Walk.{walk_length}
use Rattle.surf_surfaces.specs.Homology.{IsLoopCount}
use Rattle.surf_validity.specs.Bases.{IsClosedList}
use Rattle.surf_treecheck.specs.First.{HoldsBelow}
use Rattle.surf_sheets.specs.Rows.{SheetRow, SheetCert}
use Rattle.surf_sheets.specs.Sheets.{way_over, is_crossed}
use Rattle.surf_sheetcheck.specs.Cocycles.{IsPairEdge, cocycle, walk_set, face_set}
use Rattle.surf_sheetcheck.specs.Parts.{cycle_at, size_at, sheet_at, HasForm, part_of, limit_of}
use Rattle.surf_sheetcheck.specs.Rule.{AreDistances, FollowsRule}

-- it is for a mesh with so many vertices and faces, and has as many cycles as 2 − χ
pub record HasSheetShape (mesh : Mesh) (cert : SheetCert) : Type 0 where
  pub vertices : cert.vertices ≡ mesh.vertices
  pub faces : cert.faces ≡ face_count mesh
  pub loops : IsLoopCount mesh (length cert.cycles)

-- the cycle at a place is a closed list of neighbours
abbrev pub IsCycleClosed : Mesh → SheetCert → ℕ → Type 0
IsCycleClosed mesh cert k = IsClosedList mesh (cycle_at cert k)

-- it is no shorter than the one before
abbrev pub IsNoShorter : Mesh → List ℕ → SheetCert → ℕ → Type 0
IsNoShorter mesh lengths cert k = size_at mesh lengths cert (k - 1) ≤ size_at mesh lengths cert k

-- each cocycle has an even number of the sides of a face
abbrev pub IsEvenFace : Mesh → SheetCert → ℕ → Type 0
IsEvenFace mesh cert f = face_set mesh cert f ≡ 0

-- the cycle at a place is odd on the cocycle with its number, and on none with a greater one
pub record IsPaired (mesh : Mesh) (cert : SheetCert) (k : ℕ) : Type 0 where
  pub own : has (walk_set mesh cert (cycle_at cert k)) k ≡ true
  pub later : (j : ℕ) → k < j → j < length cert.cycles → has (walk_set mesh cert (cycle_at cert k)) j ≡ false

-- for each number in the range that an edge crosses the way over it is no shorter than the walk with that number and the
-- way across the margin and back
abbrev pub IsLongAt : Mesh → List ℕ → SheetCert → SheetRow → (distance label : ℕ → ℕ) → ℕ → Type 0
IsLongAt mesh lengths cert row distance label e =
    (i : ℕ) → row.from ≤ i → i < row.to → is_crossed mesh (cocycle mesh cert i) (λ v. has (label v) i) e ≡ true →
    size_at mesh lengths cert i + 2 * row.margin ≤ way_over mesh lengths distance e

-- a sheet holds at all edges
pub record HoldsWith (mesh : Mesh) (lengths : List ℕ) (cert : SheetCert) (row : SheetRow)
    (distance label : ℕ → ℕ) : Type 0 where
  pub rule : FollowsRule mesh lengths cert row distance label
  pub long : HoldsBelow (edge_count mesh) (IsLongAt mesh lengths cert row distance label)

abbrev pub Holds : Mesh → List ℕ → SheetCert → ℕ → Type 0
Holds mesh lengths cert s =
    (distance : ℕ → ℕ) × (label : ℕ → ℕ) × HoldsWith mesh lengths cert (sheet_at cert s) distance label

-- a vertex is within the margin of a sheet
abbrev pub IsNear : Mesh → List ℕ → SheetCert → SheetRow → ℕ → Type 0
IsNear mesh lengths cert row x =
    (distance : ℕ → ℕ) × AreDistances mesh lengths (part_of cert row) (limit_of mesh lengths cert row) distance
    × (distance x ≤ row.margin)

-- an end of an edge is within the margin of the sheet at a place, which has a number in its range
pub record ServesEdge (mesh : Mesh) (lengths : List ℕ) (cert : SheetCert) (i e s : ℕ) : Type 0 where
  pub from : (sheet_at cert s).from ≤ i
  pub to : i < (sheet_at cert s).to
  pub near : IsNear mesh lengths cert (sheet_at cert s) (ends mesh e).0
      ⊎ IsNear mesh lengths cert (sheet_at cert s) (ends mesh e).1

-- that holds for one of the first n sheets
abbrev pub IsServedBy : Mesh → List ℕ → SheetCert → ℕ → ℕ → ℕ → Type 0
IsServedBy mesh lengths cert n i e = (s : ℕ) × (s < n) × ServesEdge mesh lengths cert i e s

-- for each cocycle that an edge is in one of the sheets serves it
abbrev pub IsEdgeServed : Mesh → List ℕ → SheetCert → ℕ → Type 0
IsEdgeServed mesh lengths cert e = (i : ℕ) → cocycle mesh cert i e ≡ true →
    IsServedBy mesh lengths cert (length cert.sheets) i e

-- all conditions, in the order in which they are tested
pub record IsValidSheets (mesh : Mesh) (lengths : List ℕ) (cert : SheetCert) : Type 0 where
  pub shape : HasSheetShape mesh cert
  pub closed : HoldsBelow (length cert.cycles) (IsCycleClosed mesh cert)
  pub by_length : HoldsBelow (length cert.cycles) (IsNoShorter mesh lengths cert)
  pub pairs : HoldsBelow (length cert.edges) (IsPairEdge mesh cert)
  pub cocycles : HoldsBelow (face_count mesh) (IsEvenFace mesh cert)
  pub paired : HoldsBelow (length cert.cycles) (IsPaired mesh cert)
  pub forms : HoldsBelow (length cert.sheets) (HasForm mesh cert)
  pub sheets : HoldsBelow (length cert.sheets) (Holds mesh lengths cert)
  pub served : HoldsBelow (edge_count mesh) (IsEdgeServed mesh lengths cert)

-- the sum of the lengths of the cycles
abbrev pub sheets_total : Mesh → List ℕ → SheetCert → ℕ
sheets_total mesh lengths cert = sum (map (walk_length mesh lengths) cert.cycles)
