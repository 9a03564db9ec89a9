-- What a cover desk shows: for each vertex with each set of left edges a distance.
use Rattle.std.specs.Prelude.{◌≡◌, ℕ, ◌*◌, ◌^◌, ◌<◌, ◌≤◌, List, length, slice_index}
use Rattle.surf_surfaces.specs.Mesh.{Mesh}
use Rattle.surf_surfaces.specs.Surface.{edge_count, loop_count}
use Rattle.surf_cover.specs.Networks.{table_of}

-- how many vertices and how many sets there are, for each edge its signature, for each vertex the distances with all
-- sets, one after the other, and a list of the places there that a search has reached
pub record CoverTables : Type 0 where
  pub vertices : ℕ
  pub sets : ℕ
  pub signs : List ℕ
  pub distances : List ℕ
  pub settled : List ℕ

-- the distance of a vertex with a set
abbrev pub distance_at : CoverTables → ℕ → ℕ → ℕ
distance_at t = table_of t.sets t.distances

-- how many sets of left edges there are: a power of two
abbrev pub sets_of : Mesh → ℕ
sets_of mesh = 2 ^ loop_count mesh

-- the mesh has few loops, and few vertices with sets
pub record IsSmall (mesh : Mesh) : Type 0 where
  pub loops : loop_count mesh ≤ 16
  pub nodes : mesh.vertices * sets_of mesh ≤ 16777216

-- there is an entry for each edge, and for each vertex with each set
pub record AreCoverTables (mesh : Mesh) (t : CoverTables) : Type 0 where
  pub vertices : t.vertices ≡ mesh.vertices
  pub sets : t.sets ≡ sets_of mesh
  pub signs : length t.signs ≡ edge_count mesh

-- all distances are far below the greatest number of a table
abbrev pub AreShort : CoverTables → Type 0
AreShort t = (n : ℕ) → n < t.vertices * t.sets → slice_index t.distances n < 2 ^ 62
