-- Edges by their lesser ends.
use Rattle.std.specs.Prelude.{ℕ, ◌≡◌, ◌<◌, ◌≤◌, ◌+◌, nat_lt, List, length, slice_index}
use Rattle.surf_surfaces.specs.Mesh.{Mesh}
use Rattle.surf_surfaces.specs.Surface.{edge_count, ends}
use Rattle.surf_finder.specs.declared.rises.Rise.{Rise}

-- an edge from its lesser end to its greater one
pub record IsRise (mesh : Mesh) (rise : Rise) : Type 0 where
  pub edge_in : rise.edge < edge_count mesh
  pub low_in : rise.low < mesh.vertices
  pub high_in : rise.high < mesh.vertices
  pub ends_are : ends mesh rise.edge ≡ (rise.low, rise.high)

-- for each vertex, and for the number behind the last one, that of the first edge whose lesser end is no less
pub record AreStarts (mesh : Mesh) (starts : List ℕ) : Type 0 where
  pub count : length starts ≡ mesh.vertices + 1
  pub inside : (v : ℕ) → v ≤ mesh.vertices → slice_index starts v ≤ edge_count mesh
  pub before : (v e : ℕ) → v ≤ mesh.vertices → e < edge_count mesh →
      nat_lt e (slice_index starts v) ≡ nat_lt (ends mesh e).0 v
