-- Why a certificate of a basis isn't valid.
use Rattle.std.specs.Prelude.{◌≡◌, ℕ, ◌<◌, ◌+◌, List, [], length, Contains, slice_index, slice_index_or}
use Rattle.surf_surfaces.specs.Mesh.{Mesh, pair, edges}
use Rattle.surf_surfaces.specs.Surface.{face_count, edge_count, ends}
use Rattle.surf_validity.specs.Rows.{BasisCert}
use Rattle.surf_validity.specs.Valid.{IsDualValid, IsDivided}
use Rattle.surf_validity.specs.Bases.{tree_at, HasBasisShape, IsClosedList, IsDependent, IsCovered}
use Rattle.surf_treecheck.specs.First.{HoldsBelow, FailsFirst}
use Rattle.surf_treecheck.specs.Rows.{HasDual}
use Rattle.surf_treecheck.specs.Shapes.{IsBasisShapeFault}
use Rattle.surf_treecheck.specs.TreeFaults.{IsFirstAt, AreTreesValid, IsTreesFault}
use Rattle.surf_treecheck.specs.Split.{IsLeastBadPair}
use Rattle.surf_treecheck.specs.declared.fault.CertFault.{CertFault}
use Rattle.surf_treecheck.specs.declared.fault.CertFault.TheVariants.{Shape, Parent, Distance, Slack, Dual, Split}
use Rattle.surf_treecheck.specs.declared.fault.CertFault.TheVariants.{Heavier, NotClosed, Dependent, Uncovered}
use Rattle.surf_treecheck.specs.declared.fault.CertFault.TheVariants.{Memory}

-- ---- cycles

abbrev pub cycle_at : BasisCert → ℕ → List ℕ
cycle_at cert k = slice_index_or cert.cycles k []

-- an edge joins the vertex at a place of a list with the next one
abbrev pub IsAlong : Mesh → List ℕ → ℕ → Type 0
IsAlong mesh list k = Contains (edges mesh) (pair (slice_index list k) (slice_index list (k + 1)))

-- the cycle at a place is a closed list of neighbours
abbrev pub IsCycleClosed : Mesh → BasisCert → ℕ → Type 0
IsCycleClosed mesh cert k = IsClosedList mesh (cycle_at cert k)

-- its signature is no sum of those before it
abbrev pub IsIndependentAt : Mesh → BasisCert → ℕ → Type 0
IsIndependentAt mesh cert k = IsDependent mesh cert k → ⊥

-- the least place of a cycle whose signature is a sum of those before it
pub record DependsFirst (mesh : Mesh) (cert : BasisCert) (k : ℕ) : Type 0 where
  pub below : k < length cert.cycles
  pub depends : IsDependent mesh cert k
  pub before : HoldsBelow k (IsIndependentAt mesh cert)

-- a cycle's signature is such a sum
abbrev pub IsDependentFault : Mesh → BasisCert → CertFault → Type 0
IsDependentFault mesh cert (Dependent place) = DependsFirst mesh cert place
IsDependentFault mesh cert Memory = Unit {0}
IsDependentFault mesh cert fault = ⊥

-- the least base with an edge whose loop through the tree there is no sum of cycles that are no longer, and the least
-- such edge by its ends
abbrev pub IsUncovered : Mesh → List ℕ → BasisCert → ℕ → ℕ × ℕ → Type 0
IsUncovered mesh lengths cert base p =
    (e : ℕ) × (ends mesh e ≡ p) × IsFirstAt mesh.vertices (edge_count mesh) (IsCovered mesh lengths cert) base e

-- ---- all faults

-- the conditions before those on the cycles
pub record AreTreesDivided (mesh : Mesh) (lengths : List ℕ) (cert : BasisCert) : Type 0 where
  pub shape : HasBasisShape mesh cert
  pub trees : AreTreesValid mesh lengths cert
  pub dual : IsDualValid mesh cert.dual
  pub divided : IsDivided mesh (tree_at cert 0) cert.dual cert.left

-- What each fault says: its condition with the least witness, and that none of the conditions before it fails. Of the
-- faults that aren't listed here, those of the trees are possible.
abbrev pub IsBasisFault : Mesh → List ℕ → BasisCert → CertFault → Type 0
IsBasisFault mesh lengths cert (Shape part) = IsBasisShapeFault mesh cert part
IsBasisFault mesh lengths cert (Dual face) =
    HasBasisShape mesh cert × AreTreesValid mesh lengths cert
    × FailsFirst (face_count mesh) (HasDual mesh cert.dual) face
IsBasisFault mesh lengths cert (Split u v) =
    HasBasisShape mesh cert × AreTreesValid mesh lengths cert × IsDualValid mesh cert.dual
    × IsLeastBadPair mesh (tree_at cert 0) cert.dual cert.left (u, v)
IsBasisFault mesh lengths cert (NotClosed place) =
    AreTreesDivided mesh lengths cert × FailsFirst (length cert.cycles) (IsCycleClosed mesh cert) place
IsBasisFault mesh lengths cert (Dependent place) =
    AreTreesDivided mesh lengths cert × HoldsBelow (length cert.cycles) (IsCycleClosed mesh cert)
    × DependsFirst mesh cert place
IsBasisFault mesh lengths cert (Uncovered base u v) =
    AreTreesDivided mesh lengths cert × HoldsBelow (length cert.cycles) (IsCycleClosed mesh cert)
    × HoldsBelow (length cert.cycles) (IsIndependentAt mesh cert) × IsUncovered mesh lengths cert base (u, v)
IsBasisFault mesh lengths cert Memory = Unit {0}
IsBasisFault mesh lengths cert fault = HasBasisShape mesh cert × IsTreesFault mesh lengths cert fault
