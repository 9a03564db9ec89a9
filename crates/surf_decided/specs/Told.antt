-- Whether a mesh is a surface or a disc, and whether a certificate is valid, is decided; and what is decided against has
-- a first fault.
use Rattle.std.specs.Prelude.{◌≢◌, ◌⊎◌, List, ℕ}
use Rattle.surf_surfaces.specs.Mesh.{Mesh, IsMesh}
use Rattle.surf_surfaces.specs.Disc.{IsDisc}
use Rattle.surf_surfaces.specs.Surface.{IsSurface}
use Rattle.surf_check.specs.Fault.{IsSurfaceFault}
use Rattle.surf_check.specs.declared.checking.SurfaceFault.{SurfaceFault}
use Rattle.surf_check.specs.declared.checking.SurfaceFault.TheVariants as surface
use Rattle.surf_disc.specs.Fault.{IsDiscFault}
use Rattle.surf_disc.specs.declared.faults.DiscFault.{DiscFault}
use Rattle.surf_disc.specs.declared.faults.DiscFault.TheVariants as disc
use Rattle.surf_validity.specs.Rows.{LoopCert, BasisCert}
use Rattle.surf_validity.specs.Bases.{IsValidBasis}
use Rattle.surf_validity.specs.Valid.{IsValidLoops}
use Rattle.surf_certcheck.specs.BasisFaults.{IsBasisFault}
use Rattle.surf_certcheck.specs.LoopFaults.{IsLoopFault}
use Rattle.surf_treecheck.specs.declared.fault.CertFault.{CertFault}
use Rattle.surf_treecheck.specs.declared.fault.CertFault.TheVariants as cert
use Rattle.surf_surfaces.specs.Walk.{ArePositive}
use Rattle.surf_sheets.specs.Rows.{SheetCert}
use Rattle.surf_sheetcheck.specs.Valid.{IsValidSheets}
use Rattle.surf_sheetcheck.specs.Faults.{IsSheetFault}
use Rattle.surf_sheetcheck.specs.declared.fault.SheetFault.{SheetFault}
use Rattle.surf_sheetcheck.specs.declared.fault.SheetFault.TheVariants as sheet

-- a fault of a mesh that is no surface, other than want of memory
abbrev pub HasSurfaceFault : Mesh → Type 0
HasSurfaceFault mesh = (fault : SurfaceFault) × (fault ≢ surface.Memory) × IsSurfaceFault mesh fault

-- A mesh each of whose faces has three corners or more, all different and all vertices, is a surface, or it has a
-- first fault.
abbrev pub SurfacesAreTold : Type 0
SurfacesAreTold = (mesh : Mesh) → IsMesh mesh → IsSurface mesh ⊎ HasSurfaceFault mesh

-- a fault of a mesh that is no disc, other than want of memory
abbrev pub HasDiscFault : Mesh → Type 0
HasDiscFault mesh = (fault : DiscFault) × (fault ≢ disc.Memory) × IsDiscFault mesh fault

-- A mesh each of whose faces has three corners or more, all different and all vertices, is a disc, or it has a first
-- fault.
abbrev pub DiscsAreTold : Type 0
DiscsAreTold = (mesh : Mesh) → IsMesh mesh → IsDisc mesh ⊎ HasDiscFault mesh

-- a fault of a certificate, other than want of memory
abbrev pub HasFault : (CertFault → Type 0) → Type 0
HasFault IsFault = (fault : CertFault) × (fault ≢ cert.Memory) × IsFault fault

-- A certificate of loops is valid, or it has a first fault.
abbrev pub LoopCertsAreTold : Type 0
LoopCertsAreTold = (mesh : Mesh) (lengths : List ℕ) (cert : LoopCert) →
    IsValidLoops mesh lengths cert ⊎ HasFault (IsLoopFault mesh lengths cert)

-- A certificate of a basis is valid, or it has a first fault.
abbrev pub BasisCertsAreTold : Type 0
BasisCertsAreTold = (mesh : Mesh) (lengths : List ℕ) (cert : BasisCert) →
    IsValidBasis mesh lengths cert ⊎ HasFault (IsBasisFault mesh lengths cert)

-- a fault of a certificate by sheets, other than want of memory
abbrev pub HasSheetFault : (SheetFault → Type 0) → Type 0
HasSheetFault IsFault = (fault : SheetFault) × (fault ≢ sheet.Memory) × IsFault fault

-- A certificate by sheets is valid for a surface with positive lengths, or it has a first fault.
abbrev pub SheetCertsAreTold : Type 0
SheetCertsAreTold = (mesh : Mesh) (lengths : List ℕ) (cert : SheetCert) → IsSurface mesh → ArePositive mesh lengths →
    IsValidSheets mesh lengths cert ⊎ HasSheetFault (IsSheetFault mesh lengths cert)
