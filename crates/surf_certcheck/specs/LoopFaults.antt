-- Why a loop certificate isn't valid.
use Rattle.std.specs.Prelude.{◌≡◌, ℕ, List}
use Rattle.surf_surfaces.specs.Mesh.{Mesh}
use Rattle.surf_surfaces.specs.Surface.{face_count, edge_count, ends}
use Rattle.surf_validity.specs.Rows.{TreeRows, LoopCert}
use Rattle.surf_validity.specs.Valid.{HasShape, IsNoShortCut, IsTreeValid, IsDualValid, IsDivided, IsNotHeavier}
use Rattle.surf_validity.specs.Valid.{HasNoShorter}
use Rattle.surf_treecheck.specs.First.{HoldsBelow, FailsFirst}
use Rattle.surf_treecheck.specs.Rows.{HasParent, HasDistance, HasDual}
use Rattle.surf_treecheck.specs.Shapes.{IsShapeFault}
use Rattle.surf_treecheck.specs.Split.{IsLeastBadPair}
use Rattle.surf_treecheck.specs.declared.fault.CertFault.{CertFault}
use Rattle.surf_treecheck.specs.declared.fault.CertFault.TheVariants.{Shape, Parent, Distance, Slack, Dual, Split}
use Rattle.surf_treecheck.specs.declared.fault.CertFault.TheVariants.{Heavier, NotClosed, Dependent, Uncovered}
use Rattle.surf_treecheck.specs.declared.fault.CertFault.TheVariants.{Memory}

-- the least left edge with an edge of the tree of faces that it could be exchanged for, and the least of these
pub record AreHeavier (mesh : Mesh) (lengths : List ℕ) (cert : LoopCert) (l c : ℕ) : Type 0 where
  pub left : FailsFirst (edge_count mesh) (HasNoShorter mesh lengths cert) l
  pub dual : FailsFirst (edge_count mesh) (IsNotHeavier mesh lengths cert l) c

-- the rows of vertices have this fault: the base is that of the rows
abbrev pub IsTreeFault : Mesh → List ℕ → TreeRows → CertFault → Type 0
IsTreeFault mesh lengths rows (Parent base v) =
    (base ≡ rows.base) × FailsFirst mesh.vertices (HasParent mesh rows) v
IsTreeFault mesh lengths rows (Distance base v) =
    (base ≡ rows.base) × HoldsBelow mesh.vertices (HasParent mesh rows)
    × FailsFirst mesh.vertices (HasDistance mesh lengths rows) v
IsTreeFault mesh lengths rows (Slack base u v) =
    (base ≡ rows.base) × HoldsBelow mesh.vertices (HasParent mesh rows)
    × HoldsBelow mesh.vertices (HasDistance mesh lengths rows)
    × ((e : ℕ) × (ends mesh e ≡ (u, v)) × FailsFirst (edge_count mesh) (IsNoShortCut mesh lengths rows) e)
IsTreeFault mesh lengths rows fault = ⊥

-- the least left edge that could be exchanged, and the least edge that it could be exchanged for, by their ends
abbrev pub IsHeavierFault : Mesh → List ℕ → LoopCert → CertFault → Type 0
IsHeavierFault mesh lengths cert (Heavier left cotree) =
    (l : ℕ) × (c : ℕ) × (ends mesh l ≡ left) × (ends mesh c ≡ cotree) × AreHeavier mesh lengths cert l c
IsHeavierFault mesh lengths cert fault = ⊥

-- What each fault says: its condition with the least witness, and that none of the conditions before it fails. Of the
-- faults that aren't listed here, those of the rows of vertices are possible.
abbrev pub IsLoopFault : Mesh → List ℕ → LoopCert → CertFault → Type 0
IsLoopFault mesh lengths cert (Shape part) = IsShapeFault mesh cert part
IsLoopFault mesh lengths cert (Dual face) =
    HasShape mesh cert × IsTreeValid mesh lengths cert.tree × FailsFirst (face_count mesh) (HasDual mesh cert.dual) face
IsLoopFault mesh lengths cert (Split u v) =
    HasShape mesh cert × IsTreeValid mesh lengths cert.tree × IsDualValid mesh cert.dual
    × IsLeastBadPair mesh cert.tree cert.dual cert.left (u, v)
IsLoopFault mesh lengths cert (Heavier left cotree) =
    HasShape mesh cert × IsTreeValid mesh lengths cert.tree × IsDualValid mesh cert.dual
    × IsDivided mesh cert.tree cert.dual cert.left
    × IsHeavierFault mesh lengths cert (Heavier left cotree)
IsLoopFault mesh lengths cert Memory = Unit {0}
IsLoopFault mesh lengths cert fault = HasShape mesh cert × IsTreeFault mesh lengths cert.tree fault
