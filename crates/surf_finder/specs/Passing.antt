-- Vertices that are passed over, since loops there are nothing new.
use Rattle.std.specs.Prelude.{ℕ, ◌<◌, ◌≤◌, ◌⊎◌, Bool, false, IsTrue, List, slice_index_or}
use Rattle.surf_graphs.specs.Trees.{Tree}
use Rattle.surf_surfaces.specs.Mesh.{Mesh}
use Rattle.surf_surfaces.specs.Surface.{edge_count}
use Rattle.surf_surfaces.specs.Walk.{edge_length}
use Rattle.surf_surfaces.specs.ShortestTree.{IsShortestTree}
use Rattle.surf_near.specs.Links.{IsShutAt}

-- whether a vertex is marked in a table
abbrev pub is_marked : List Bool → ℕ → Bool
is_marked marks v = slice_index_or marks v false

-- the vertices that are no farther from a base than a distance are marked, and no others anew
pub record AreMarkedNear (mesh : Mesh) (lengths : List ℕ) (base far : ℕ) (old new : List Bool) : Type 0 where
  pub only : (tree : Tree) → IsShortestTree mesh lengths base tree → (v : ℕ) → IsTrue (is_marked new v) →
      IsTrue (is_marked old v) ⊎ (tree.rank v ≤ far)
  pub all : (tree : Tree) → IsShortestTree mesh lengths base tree → (v : ℕ) → v < mesh.vertices → tree.rank v ≤ far →
      IsTrue (is_marked new v)

-- the ways through vertices that are marked anew are barred
abbrev pub AreShut : Mesh → List ℕ → List Bool → List Bool → Type 0
AreShut mesh lengths old new = (v : ℕ) → IsTrue (is_marked new v) → IsTrue (is_marked old v) ⊎ IsShutAt mesh v lengths

-- no edge has a lesser length than before
abbrev pub AreNoShorter : Mesh → List ℕ → List ℕ → Type 0
AreNoShorter mesh old new = (e : ℕ) → e < edge_count mesh → edge_length old e ≤ edge_length new e
