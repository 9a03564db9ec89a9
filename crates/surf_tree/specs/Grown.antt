-- What a tree desk holds after it has grown the tree at a base.
use Rattle.std.specs.Prelude.{ℕ, ◌≡◌, ◌≢◌, ◌<◌, ◌^◌, false, List, slice_index, slice_index_or, Some, None}
use Rattle.surf_surfaces.specs.Mesh.{Mesh}
use Rattle.surf_surfaces.specs.Surface.{edge_count}
use Rattle.surf_surfaces.specs.ShortestTree.{IsShortestTree}
use Rattle.surf_surfaces.specs.Cotree.{tree_edges}
use Rattle.surf_tree.specs.Tables.{TreeTables, AreTreeTables, parent_of, parent_edge_of, tree_of}

-- The tables hold the tree of shortest walks from a base of a mesh: the distances are least, the parents are the
-- least tight neighbours, only the base has none, and the flags are on exactly at the edges between a vertex and
-- its parent.
pub record IsGrown (mesh : Mesh) (lengths : List ℕ) (base : ℕ) (t : TreeTables) : Type 0 where
  pub made : AreTreeTables mesh t
  pub base_is : t.base ≡ base
  pub shortest : IsShortestTree mesh lengths base (tree_of t)
  pub base_alone : parent_of t base ≡ None
  pub parents : (v : ℕ) → v < mesh.vertices → v ≢ base → parent_of t v ≡ Some (slice_index t.parents v)
  pub parent_edges : (v : ℕ) → v < mesh.vertices → v ≢ base → parent_edge_of t v ≡ Some (slice_index t.ups v)
  pub flags : (e : ℕ) → e < edge_count mesh → slice_index_or t.flags e false ≡ tree_edges mesh (tree_of t) e
  pub fits : (v : ℕ) → v < mesh.vertices → slice_index t.distances v < 2 ^ 62
