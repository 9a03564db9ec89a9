-- How far loops are sought, and the lengths and bases of those that were found.
use Rattle.std.specs.Prelude.{ℕ, ◌≡◌, ◌<◌, ◌-◌, ◌/◌, ◌==◌, List, length, slice_index, Option, Some, None, if◌then◌else◌}
use Rattle.surf_graphs.specs.Trees.{Tree}
use Rattle.surf_surfaces.specs.Mesh.{Mesh}
use Rattle.surf_surfaces.specs.ShortestTree.{IsShortestTree}
use Rattle.surf_choice.specs.declared.candidate.Candidate.{Candidate}

-- how far a search has to go that finds the loops before a limit. No loop as long as a limit at vertex 0 comes before it
abbrev pub radius_of : Option Candidate → ℕ
radius_of None = 18446744073709551615
radius_of (Some c) = if c.base == 0 then (c.length - 1) / 2 else c.length / 2

-- each number is the distance of a vertex from a base, by each tree of shortest walks
abbrev pub AreDistances : Mesh → List ℕ → ℕ → List ℕ → Type 0
AreDistances mesh lengths base list = (tree : Tree) → IsShortestTree mesh lengths base tree → (i : ℕ) → i < length list →
    (v : ℕ) × (v < mesh.vertices) × (tree.rank v ≡ slice_index list i)
