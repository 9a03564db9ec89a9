-- What a tree desk shows: the tables of one tree of shortest walks.
use Rattle.std.specs.Prelude.{◌≡◌, ℕ, ◌==◌, Bool, List, length, slice_index, Option, Some, None, if◌then◌else◌}
use Rattle.surf_graphs.specs.Trees.{Tree}
use Rattle.surf_surfaces.specs.Mesh.{Mesh}
use Rattle.surf_surfaces.specs.Surface.{edge_count}
use Rattle.surf_base.specs.Tables.{nobody}

-- the base, for each vertex its distance, its parent and the edge to it, and for each edge whether the tree has it
pub record TreeTables : Type 0 where
  pub base : ℕ
  pub distances : List ℕ
  pub parents : List ℕ
  pub ups : List ℕ
  pub flags : List Bool

-- what a table of parents or of edges to them has for a vertex
abbrev pub one_above : List ℕ → TreeTables → ℕ → Option ℕ
one_above table t v = if slice_index t.parents v == nobody then None else Some (slice_index table v)

-- the parent of a vertex, and the edge to it
abbrev pub parent_of : TreeTables → ℕ → Option ℕ
parent_of t v = one_above t.parents t v

abbrev pub parent_edge_of : TreeTables → ℕ → Option ℕ
parent_edge_of t v = one_above t.ups t v

-- the tree of the tables
abbrev pub tree_of : TreeTables → Tree
tree_of t = record {
  root = t.base;
  parent = slice_index t.parents;
  up = slice_index t.ups;
  rank = slice_index t.distances;
}

-- there is an entry for each vertex and for each edge
pub record AreTreeTables (mesh : Mesh) (t : TreeTables) : Type 0 where
  pub distances : length t.distances ≡ mesh.vertices
  pub parents : length t.parents ≡ mesh.vertices
  pub ups : length t.ups ≡ mesh.vertices
  pub flags : length t.flags ≡ edge_count mesh
