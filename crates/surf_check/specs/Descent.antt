-- Vertices with lesser neighbours.
use Rattle.std.specs.Prelude.{◌≡◌, ◌<◌, ◌==◌, ℕ, Bool, true}
use Rattle.std.specs.List.{list_any}
use Rattle.surf_surfaces.specs.Mesh.{Mesh, edges}

-- a vertex is the greater end of an edge
abbrev pub is_greater_end : Mesh → ℕ → Bool
is_greater_end mesh v = list_any (λ (p : ℕ × ℕ). p.1 == v) (edges mesh)

-- each vertex but vertex 0 has a lesser neighbour
abbrev pub HaveLesserNeighbours : Mesh → Type 0
HaveLesserNeighbours mesh = (v : ℕ) → 0 < v → v < mesh.vertices → is_greater_end mesh v ≡ true
