-- The faces at a vertex.
use Rattle.std.specs.Prelude.{◌≡◌, ℕ, ◌<◌, Bool, true, List, All, Contains}
use Rattle.surf_surfaces.specs.Mesh.{Mesh, steps}
use Rattle.surf_surfaces.specs.Surface.{edge_count, ends, faces_of, touches, HasCorner, ShareAt, HasOneFan, IsSurface}

-- A set of faces that no edge at the vertex parts has all faces there or none.
abbrev pub FansAreWhole : Type 0
FansAreWhole =
    (mesh : Mesh) → IsSurface mesh → (v : ℕ) → v < mesh.vertices → (set : ℕ → Bool) →
    ((e : ℕ) → e < edge_count mesh → touches v (ends mesh e) ≡ true →
    set (faces_of mesh e).0 ≡ set (faces_of mesh e).1) →
    (f g : ℕ) → HasCorner mesh f v → HasCorner mesh g v → set f ≡ set g

-- A list of faces, neighbours sharing an edge at the vertex, that has all faces there makes them
-- one fan.
abbrev pub ListedFacesAreFan : Type 0
ListedFacesAreFan =
    (mesh : Mesh) (v : ℕ) (faces : List ℕ) → All (λ s. ShareAt mesh v s.0 s.1) (steps faces) →
    ((f : ℕ) → HasCorner mesh f v → Contains faces f) → HasOneFan mesh v
