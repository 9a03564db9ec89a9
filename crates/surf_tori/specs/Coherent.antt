-- Coherently oriented meshes: each side is run once in each direction.
use Rattle.std.specs.Prelude.{◌≡◌, ℕ, ◌<◌, true, length}
use Rattle.surf_surfaces.specs.Mesh.{Mesh, IsMesh}
use Rattle.surf_surfaces.specs.Surface.{edge_count, face_at, runs, ends, faces_with}

-- face f runs from p's first to its second in its listed order
abbrev pub Runs : Mesh → ℕ → ℕ × ℕ → Type 0
Runs mesh f p = runs p (face_at mesh f) ≡ true

-- no two faces run from one vertex to another, and some face runs back
pub record IsCoherent (mesh : Mesh) : Type 0 where
  pub is_mesh : IsMesh mesh
  pub once : (f g : ℕ) (p : ℕ × ℕ) → Runs mesh f p → Runs mesh g p → f ≡ g
  pub back : (f : ℕ) (p : ℕ × ℕ) → Runs mesh f p → (g : ℕ) × Runs mesh g (p.1, p.0)

-- Where no two faces run from one vertex to another and each run has one back, each edge has two
-- faces.
abbrev pub CoherentEdgesHaveTwoFaces : Type 0
CoherentEdgesHaveTwoFaces =
    (mesh : Mesh) → IsCoherent mesh → (e : ℕ) → e < edge_count mesh → length (faces_with mesh (ends mesh e)) ≡ 2
