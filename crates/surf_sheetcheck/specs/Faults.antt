-- Why a certificate of a basis by sheets isn't valid.
use Rattle.std.specs.Prelude.{◌≡◌, ℕ, ◌<◌, List, length}
use Rattle.surf_surfaces.specs.Mesh.{Mesh}
use Rattle.surf_surfaces.specs.Surface.{face_count, edge_count, ends}
use Rattle.surf_surfaces.specs.Homology.{IsLoopCount}
use Rattle.surf_treecheck.specs.First.{HoldsBelow, FailsFirst}
use Rattle.surf_treecheck.specs.declared.fault.CertPart.{CertPart}
use Rattle.surf_treecheck.specs.declared.fault.CertPart.TheVariants.{Vertices, Faces, Loops, Base}
use Rattle.surf_sheets.specs.Rows.{SheetRow, SheetCert}
use Rattle.surf_sheetcheck.specs.Cocycles.{pair_at, IsPairEdge}
use Rattle.surf_sheetcheck.specs.Parts.{sheet_at, HasForm}
use Rattle.surf_sheetcheck.specs.Rule.{FollowsRule}
use Rattle.surf_sheetcheck.specs.Valid.{HasSheetShape, IsCycleClosed, IsNoShorter, IsEvenFace, IsPaired, IsLongAt, Holds}
use Rattle.surf_sheetcheck.specs.Valid.{IsEdgeServed}
use Rattle.surf_sheetcheck.specs.declared.fault.SheetFault.{SheetFault}
use Rattle.surf_sheetcheck.specs.declared.fault.SheetFault.TheVariants.{Shape, NotClosed, Falling, Pair, Cocycle}
use Rattle.surf_sheetcheck.specs.declared.fault.SheetFault.TheVariants.{Unpaired, Form, Short, Unserved, Memory}

-- the first count that isn't that of the mesh
abbrev pub IsSheetShapeFault : Mesh → SheetCert → CertPart → Type 0
IsSheetShapeFault mesh cert Vertices = cert.vertices ≡ mesh.vertices → ⊥
IsSheetShapeFault mesh cert Faces = (cert.vertices ≡ mesh.vertices) × (cert.faces ≡ face_count mesh → ⊥)
IsSheetShapeFault mesh cert Loops =
    (cert.vertices ≡ mesh.vertices) × (cert.faces ≡ face_count mesh) × (IsLoopCount mesh (length cert.cycles) → ⊥)
IsSheetShapeFault mesh cert Base = ⊥

-- the conditions on the walks alone
pub record AreWalksRight (mesh : Mesh) (lengths : List ℕ) (cert : SheetCert) : Type 0 where
  pub shape : HasSheetShape mesh cert
  pub closed : HoldsBelow (length cert.cycles) (IsCycleClosed mesh cert)
  pub by_length : HoldsBelow (length cert.cycles) (IsNoShorter mesh lengths cert)

-- and those on the cocycles, and on the forms of sheets
pub record AreRowsRight (mesh : Mesh) (lengths : List ℕ) (cert : SheetCert) : Type 0 where
  pub walks : AreWalksRight mesh lengths cert
  pub pairs : HoldsBelow (length cert.edges) (IsPairEdge mesh cert)
  pub cocycles : HoldsBelow (face_count mesh) (IsEvenFace mesh cert)
  pub paired : HoldsBelow (length cert.cycles) (IsPaired mesh cert)
  pub forms : HoldsBelow (length cert.sheets) (HasForm mesh cert)

-- with the distances and labels of the rule a sheet doesn't hold at an edge, and this is the least one
pub record IsShort (mesh : Mesh) (lengths : List ℕ) (cert : SheetCert) (row : SheetRow)
    (distance label : ℕ → ℕ) (e : ℕ) : Type 0 where
  pub rule : FollowsRule mesh lengths cert row distance label
  pub edge : FailsFirst (edge_count mesh) (IsLongAt mesh lengths cert row distance label) e

-- the first sheet that doesn't hold, and the least edge there, by its ends
pub record IsShortFirst (mesh : Mesh) (lengths : List ℕ) (cert : SheetCert) (s : ℕ) (p : ℕ × ℕ) : Type 0 where
  pub below : s < length cert.sheets
  pub distance : ℕ → ℕ
  pub label : ℕ → ℕ
  pub edge : ℕ
  pub its_ends : ends mesh edge ≡ p
  pub short : IsShort mesh lengths cert (sheet_at cert s) distance label edge
  pub before : HoldsBelow s (Holds mesh lengths cert)

-- the least edge that isn't served, by its ends
abbrev pub IsUnserved : Mesh → List ℕ → SheetCert → ℕ × ℕ → Type 0
IsUnserved mesh lengths cert p =
    (e : ℕ) × (ends mesh e ≡ p) × FailsFirst (edge_count mesh) (IsEdgeServed mesh lengths cert) e

-- What each fault says: its condition with the least witness, and that none of the conditions before it fails.
abbrev pub IsSheetFault : Mesh → List ℕ → SheetCert → SheetFault → Type 0
IsSheetFault mesh lengths cert (Shape part) = IsSheetShapeFault mesh cert part
IsSheetFault mesh lengths cert (NotClosed k) =
    HasSheetShape mesh cert × FailsFirst (length cert.cycles) (IsCycleClosed mesh cert) k
IsSheetFault mesh lengths cert (Falling k) =
    HasSheetShape mesh cert × HoldsBelow (length cert.cycles) (IsCycleClosed mesh cert)
    × FailsFirst (length cert.cycles) (IsNoShorter mesh lengths cert) k
IsSheetFault mesh lengths cert (Pair u v) =
    AreWalksRight mesh lengths cert
    × ((j : ℕ) × (pair_at cert j ≡ (u, v)) × FailsFirst (length cert.edges) (IsPairEdge mesh cert) j)
IsSheetFault mesh lengths cert (Cocycle f) =
    AreWalksRight mesh lengths cert × HoldsBelow (length cert.edges) (IsPairEdge mesh cert)
    × FailsFirst (face_count mesh) (IsEvenFace mesh cert) f
IsSheetFault mesh lengths cert (Unpaired k) =
    AreWalksRight mesh lengths cert × HoldsBelow (length cert.edges) (IsPairEdge mesh cert)
    × HoldsBelow (face_count mesh) (IsEvenFace mesh cert) × FailsFirst (length cert.cycles) (IsPaired mesh cert) k
IsSheetFault mesh lengths cert (Form s) =
    AreWalksRight mesh lengths cert × HoldsBelow (length cert.edges) (IsPairEdge mesh cert)
    × HoldsBelow (face_count mesh) (IsEvenFace mesh cert) × HoldsBelow (length cert.cycles) (IsPaired mesh cert)
    × FailsFirst (length cert.sheets) (HasForm mesh cert) s
IsSheetFault mesh lengths cert (Short s u v) =
    AreRowsRight mesh lengths cert × IsShortFirst mesh lengths cert s (u, v)
IsSheetFault mesh lengths cert (Unserved u v) =
    AreRowsRight mesh lengths cert × HoldsBelow (length cert.sheets) (Holds mesh lengths cert)
    × IsUnserved mesh lengths cert (u, v)
IsSheetFault mesh lengths cert Memory = Unit {0}
