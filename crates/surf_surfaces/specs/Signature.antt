-- The signatures of edges and walks, as sets of places of left edges.
use Rattle.std.specs.Prelude.{◌≡◌, ℕ, ◌<◌, ◌↔◌, List, length, map}
use Rattle.surf_z2.specs.Below.{number_of}
use Rattle.surf_z2.specs.Space.{numbers, sum_of}
use Rattle.surf_graphs.specs.Cells.{Split, IsSplit, signature}
use Rattle.surf_surfaces.specs.Mesh.{Mesh, steps, sides}
use Rattle.surf_surfaces.specs.Surface.{face_count, face_at, IsSurface}
use Rattle.surf_surfaces.specs.Walk.{IsWalk, IsClosed, edge_number}
use Rattle.surf_surfaces.specs.Homology.{IsNull}
use Rattle.surf_surfaces.specs.Cells.{cells_of}
use Rattle.surf_surfaces.specs.Class.{class_of}

-- the signature of the e-th edge as one number: an edge of the tree has none, a left edge its own place,
-- and one of the cotree the places of the left edges whose faces it parts
abbrev pub edge_signature : Mesh → Split → ℕ → ℕ
edge_signature mesh d e = number_of (length d.left) (signature (cells_of mesh) d e)

-- the sum of the signatures of a walk's steps
abbrev pub walk_signature : Mesh → Split → List ℕ → ℕ
walk_signature mesh d walk =
    sum_of numbers (map (λ s. edge_signature mesh d (edge_number mesh s)) (steps walk))

-- The signature of a walk by steps is that of its parity.
abbrev pub SignaturesAreClasses : Type 0
SignaturesAreClasses =
    (mesh : Mesh) (d : Split) → IsSurface mesh → (walk : List ℕ) → IsWalk mesh walk →
    walk_signature mesh d walk ≡ class_of mesh d walk

-- A closed walk is null exactly where its signature is empty.
abbrev pub NullBySignature : Type 0
NullBySignature =
    (mesh : Mesh) (d : Split) → IsSurface mesh → IsSplit (cells_of mesh) d → (walk : List ℕ) →
    IsClosed mesh walk →
    IsNull mesh walk ↔ (walk_signature mesh d walk ≡ 0)

-- The signatures of a face's sides sum to nothing.
abbrev pub FacesSumToZero : Type 0
FacesSumToZero =
    (mesh : Mesh) (d : Split) → IsSurface mesh → IsSplit (cells_of mesh) d → (f : ℕ) → f < face_count mesh →
    sum_of numbers (map (λ s. edge_signature mesh d (edge_number mesh s)) (sides (face_at mesh f))) ≡ 0
