-- How many edges of a set there are at a vertex.
use Rattle.std.specs.Prelude.{◌≡◌, ℕ, ◌<◌, Bool, ◌&&◌, List, slice_index}
use Rattle.surf_z2.specs.Parity.{count_below}
use Rattle.surf_z2.specs.Space.{Chain}
use Rattle.surf_surfaces.specs.Mesh.{Mesh}
use Rattle.surf_surfaces.specs.Surface.{edge_count, ends, touches}

-- whether an edge is in the set and has the vertex
abbrev pub is_in_at : Mesh → Chain → ℕ → ℕ → Bool
is_in_at mesh set v e = set e && touches v (ends mesh e)

-- how many edges of the set are at a vertex
abbrev pub degree_in : Mesh → Chain → ℕ → ℕ
degree_in mesh set v = count_below (edge_count mesh) (is_in_at mesh set v)

-- the table has for each vertex how many of the first n edges are edges of the set at it
abbrev pub AreDegreesTo : Mesh → Chain → ℕ → List ℕ → Type 0
AreDegreesTo mesh set n degrees =
    (v : ℕ) → v < mesh.vertices → slice_index degrees v ≡ count_below n (is_in_at mesh set v)
