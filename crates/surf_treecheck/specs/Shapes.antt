-- Which part of a certificate has a size or a base that doesn't fit the mesh.
use Rattle.std.specs.Prelude.{◌≡◌, ℕ, ◌<◌, length}
use Rattle.surf_surfaces.specs.Mesh.{Mesh}
use Rattle.surf_surfaces.specs.Homology.{IsLoopCount}
use Rattle.surf_validity.specs.Rows.{LoopCert, BasisCert}
use Rattle.surf_validity.specs.Bases.{tree_at, HasTrees, HasCounts}
use Rattle.surf_treecheck.specs.First.{HoldsBelow}
use Rattle.surf_validity.specs.Valid.{HasTreeRows, HasDualRows}
use Rattle.surf_treecheck.specs.declared.fault.CertPart.{CertPart}
use Rattle.surf_treecheck.specs.declared.fault.CertPart.TheVariants.{Vertices, Faces, Loops, Base}

-- of four conditions, that of the part fails, and those before it hold
abbrev pub FirstPart : (vertices faces loops base : Type 0) → CertPart → Type 0
FirstPart A B C D Vertices = A → ⊥
FirstPart A B C D Faces = A × (B → ⊥)
FirstPart A B C D Loops = A × B × (C → ⊥)
FirstPart A B C D Base = A × B × C × (D → ⊥)

-- the part of a loop certificate doesn't fit the mesh, and those before it do
abbrev pub IsShapeFault : Mesh → LoopCert → CertPart → Type 0
IsShapeFault mesh cert =
    FirstPart (HasTreeRows mesh cert.tree) (HasDualRows mesh cert.dual) (IsLoopCount mesh (length cert.left))
    (cert.tree.base < mesh.vertices)

-- the base of the tree at a place is the place
abbrev pub HasBase : BasisCert → ℕ → Type 0
HasBase cert x = (tree_at cert x).base ≡ x

-- the same for a basis certificate
abbrev pub IsBasisShapeFault : Mesh → BasisCert → CertPart → Type 0
IsBasisShapeFault mesh cert =
    FirstPart (HasTrees mesh cert) (HasDualRows mesh cert.dual) (HasCounts mesh cert)
    (HoldsBelow mesh.vertices (HasBase cert))
