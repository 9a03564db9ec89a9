-- The tree of shortest walks from a base.
use Rattle.std.specs.Prelude.{◌≡◌, ◌≢◌, ℕ, ◌+◌, ◌<◌, ◌≤◌, List, Contains}
use Rattle.surf_graphs.specs.Trees.{Tree}
use Rattle.surf_surfaces.specs.Mesh.{Mesh, pair, edges}
use Rattle.surf_surfaces.specs.Walk.{edge_length, edge_number, ArePositive}
use Rattle.surf_surfaces.specs.Surface.{IsSurface}
use Rattle.surf_surfaces.specs.Distance.{IsDistance}

-- u and v are joined by an edge, and going over it from u is a shortest way to v
abbrev pub IsTight : Mesh → List ℕ → (ℕ → ℕ) → ℕ → ℕ → Type 0
IsTight mesh lengths distance u v =
    Contains (edges mesh) (pair u v)
    × (distance u + edge_length lengths (edge_number mesh (u, v)) ≡ distance v)

-- ranks are the distances from the base. The parent of each other vertex is its least tight neighbour,
-- and `up` is the number of the edge to it
pub record IsShortestTree (mesh : Mesh) (lengths : List ℕ) (base : ℕ) (tree : Tree) : Type 0 where
  pub base_in : base < mesh.vertices
  pub root : tree.root ≡ base
  pub distances : (v : ℕ) → v < mesh.vertices → IsDistance mesh lengths base v (tree.rank v)
  pub tight : (v : ℕ) → v < mesh.vertices → v ≢ base → IsTight mesh lengths tree.rank (tree.parent v) v
  pub least : (u v : ℕ) → v < mesh.vertices → v ≢ base → IsTight mesh lengths tree.rank u v →
      tree.parent v ≤ u
  pub up : (v : ℕ) → v < mesh.vertices → v ≢ base → tree.up v ≡ edge_number mesh (tree.parent v, v)

-- the trees have the same distances, parents and edges
pub record SameTree (mesh : Mesh) (base : ℕ) (a b : Tree) : Type 0 where
  pub ranks : (v : ℕ) → v < mesh.vertices → a.rank v ≡ b.rank v
  pub parents : (v : ℕ) → v < mesh.vertices → v ≢ base → a.parent v ≡ b.parent v
  pub ups : (v : ℕ) → v < mesh.vertices → v ≢ base → a.up v ≡ b.up v

-- There is one tree of shortest walks with least parents: distances, parents and edges.
abbrev pub ShortestTreesAreOne : Type 0
ShortestTreesAreOne =
    (mesh : Mesh) (lengths : List ℕ) (base : ℕ) (a b : Tree) → IsSurface mesh → ArePositive mesh lengths →
    IsShortestTree mesh lengths base a → IsShortestTree mesh lengths base b → SameTree mesh base a b
