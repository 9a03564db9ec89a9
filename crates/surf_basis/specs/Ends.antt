-- Ends of the edges whose signatures aren't empty.
use Rattle.std.specs.Prelude.{ℕ, ◌≡◌, ◌≢◌, ◌<◌, ◌⊎◌, true, false, Bool, List, All, Contains, slice_index, slice_index_or}
use Rattle.surf_surfaces.specs.Mesh.{Mesh}
use Rattle.surf_surfaces.specs.Surface.{edge_count, ends}
use Rattle.surf_finder.specs.Signing.{SignTables}
use Rattle.surf_surfaces.specs.Degrees.{degree_in}
use Rattle.surf_search.specs.Degrees.{by_degree}
use Rattle.surf_finder.specs.Marks.{is_signed}

-- an end of the edge is marked
abbrev pub HasMarkedEnd : Mesh → List Bool → ℕ → Type 0
HasMarkedEnd mesh marked e =
    (slice_index_or marked (ends mesh e).0 false ≡ true) ⊎ (slice_index_or marked (ends mesh e).1 false ≡ true)

-- a list has an end of each edge whose signature isn't empty
abbrev pub HasSignedEnds : Mesh → SignTables → List ℕ → Type 0
HasSignedEnds mesh s list =
    (e : ℕ) → e < edge_count mesh → slice_index s.signatures e ≢ 0 →
    Contains list (ends mesh e).0 ⊎ Contains list (ends mesh e).1

-- of the ends of an edge whose signature isn't empty, the vertex is that of the greater degree: the greater end, where
-- both have the same
abbrev pub IsBusierEnd : Mesh → SignTables → (ℕ → ℕ) → ℕ → Type 0
IsBusierEnd mesh s degree v = (e : ℕ) × (e < edge_count mesh) × (slice_index s.signatures e ≢ 0)
    × ((by_degree degree (ends mesh e)).1 ≡ v)

-- a list has an end of each edge whose signature isn't empty, and no other vertices: each is the end of such an edge
-- at which there are more of them (`IsBusierEnd`)
pub record AreSignedEnds (mesh : Mesh) (s : SignTables) (list : List ℕ) : Type 0 where
  pub each : HasSignedEnds mesh s list
  pub only : All (IsBusierEnd mesh s (degree_in mesh (is_signed s))) list
