-- What a cotree desk holds after it has grown the tree of faces outside a tree of vertices.
use Rattle.std.specs.Prelude.{ℕ, ◌≡◌, ◌≢◌, ◌<◌, ◌+◌, Bool, false, List, length, slice_index, slice_index_or, Some, None}
use Rattle.surf_graphs.specs.Cells.{primal, dual, IsSplit}
use Rattle.surf_graphs.specs.Trees.{Tree, IsTree}
use Rattle.surf_surfaces.specs.Mesh.{Mesh}
use Rattle.surf_surfaces.specs.Surface.{edge_count, face_count}
use Rattle.surf_surfaces.specs.Cells.{cells_of}
use Rattle.surf_surfaces.specs.Loop.{loop_length}
use Rattle.surf_surfaces.specs.Cotree.{tree_edges, cotree_edges, left_edges, split_of, IsHeaviestCotree}
use Rattle.surf_cotree.specs.Tables.{CotreeTables, EdgeTables, AreCotreeTables, parent_edge_of, cotree_of, split_with}
use Rattle.surf_cotree.specs.Searches.{outside, IsHeaviestTree}

-- the flags are on exactly at the edges of a spanning tree of the vertices
pub record IsMarked (mesh : Mesh) (tree : Tree) (marks : List Bool) : Type 0 where
  pub spans : IsTree (primal (cells_of mesh)) tree
  pub marks_are : (e : ℕ) → e < edge_count mesh → slice_index_or marks e false ≡ tree_edges mesh tree e

-- there is such a tree
abbrev pub MarkTree : Mesh → List Bool → Type 0
MarkTree mesh marks = (tree : Tree) × IsMarked mesh tree marks

-- each edge weighs as much as its loop is long
abbrev pub AreLoopLengths : Mesh → List ℕ → Tree → (ℕ → ℕ) → Type 0
AreLoopLengths mesh lengths tree weight = (e : ℕ) → e < edge_count mesh → weight e ≡ loop_length mesh lengths tree e

-- The tables hold the tree of faces, rooted at face 0, over edges that aren't marked, in which each edge on the way
-- between the two faces of a left edge is greater than that edge by weight and number. The flags are on exactly at
-- its edges. The left edges are those in neither tree, increasing, and there are two less the characteristic of them.
-- Where the weights are the lengths of loops, it is the heaviest tree of the choice among ties.
pub record IsGrown (mesh : Mesh) (marks : List Bool) (weight : ℕ → ℕ) (t : CotreeTables) : Type 0 where
  pub made : AreCotreeTables mesh t
  pub heaviest : IsHeaviestTree (dual (cells_of mesh)) (outside marks) weight (cotree_of t)
  pub root : parent_edge_of t 0 ≡ None
  pub parent_edges : (f : ℕ) → f < face_count mesh → f ≢ 0 → parent_edge_of t f ≡ Some (slice_index t.ups f)
  pub held : (e : ℕ) → e < edge_count mesh → slice_index_or t.held e false ≡ cotree_edges mesh (cotree_of t) e
  pub left : (tree : Tree) → IsMarked mesh tree marks → t.left ≡ left_edges mesh tree (cotree_of t)
  pub split : (tree : Tree) → IsMarked mesh tree marks → IsSplit (cells_of mesh) (split_of mesh tree (cotree_of t))
  pub count : length t.left + (mesh.vertices + face_count mesh) ≡ edge_count mesh + 2
  pub chosen : (lengths : List ℕ) (tree : Tree) → IsMarked mesh tree marks → AreLoopLengths mesh lengths tree weight →
      IsHeaviestCotree mesh lengths tree (cotree_of t)

-- The tables have the size for the mesh, and hold a tree of its faces, rooted at face 0, and the edges that are
-- neither in it nor in some spanning tree of the vertices, increasing.
pub record IsGrownOn (mesh : Mesh) (t : CotreeTables) : Type 0 where
  pub made : AreCotreeTables mesh t
  pub root : parent_edge_of t 0 ≡ None
  pub tree : Tree
  pub split : IsSplit (cells_of mesh) (split_with tree t)

-- there are tables that hold the tree of faces, with these flags and left edges
pub record HasGrown (mesh : Mesh) (marks : List Bool) (weight : ℕ → ℕ) (edges : EdgeTables) : Type 0 where
  pub tables : CotreeTables
  pub grown : IsGrown mesh marks weight tables
  pub held : tables.held ≡ edges.held
  pub left : tables.left ≡ edges.left
