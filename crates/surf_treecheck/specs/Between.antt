-- Edges between vertices.
use Rattle.std.specs.Prelude.{◌≡◌, ℕ, ◌<◌, false, Contains, Option, MatchOption}
use Rattle.surf_surfaces.specs.Mesh.{Mesh, pair, edges, among}
use Rattle.surf_surfaces.specs.Surface.{edge_count, ends}
use Rattle.surf_surfaces.specs.Walk.{edge_number}

-- the edge between two vertices, or nothing where they have none
abbrev pub IsEdgeBetween : Mesh → ℕ → ℕ → Option ℕ → Type 0
IsEdgeBetween mesh u v found =
    MatchOption found (among (pair u v) (edges mesh) ≡ false)
    (λ e. (e < edge_count mesh) × (ends mesh e ≡ pair u v))

-- the same, with its number and that the first is a vertex
abbrev pub IsEdgeUp : Mesh → ℕ → ℕ → Option ℕ → Type 0
IsEdgeUp mesh p v found =
    MatchOption found (Contains (edges mesh) (pair p v) → ⊥)
    (λ e. Contains (edges mesh) (pair p v) × (e < edge_count mesh) × (edge_number mesh (p, v) ≡ e)
    × (p < mesh.vertices))
