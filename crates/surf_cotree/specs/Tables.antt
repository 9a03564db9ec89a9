-- What a cotree desk shows: the tables of one tree of faces.
use Rattle.std.specs.Prelude.{◌≡◌, ℕ, ◌==◌, nat_le, Bool, List, length, slice_index, Option, Some, None}
use Rattle.std.specs.Prelude.{if◌then◌else◌}
use Rattle.surf_graphs.specs.Cells.{Split}
use Rattle.surf_graphs.specs.Trees.{Tree}
use Rattle.surf_surfaces.specs.Mesh.{Mesh}
use Rattle.surf_surfaces.specs.Surface.{edge_count, face_count, loop_count}
use Rattle.surf_base.specs.Tables.{nobody}

-- For each edge whether the tree has it, the edges in neither tree, increasing, for each face its parent, the
-- edge to it and the number of edges to face 0, how many left edges the signatures have room for, and for each
-- edge its signature: the set of the places of left edges, as one number
pub record CotreeTables : Type 0 where
  pub held : List Bool
  pub left : List ℕ
  pub parents : List ℕ
  pub ups : List ℕ
  pub depths : List ℕ
  pub width : ℕ
  pub signatures : List ℕ

-- of these tables: for each edge whether the tree has it, and the edges in neither tree, increasing
pub record EdgeTables : Type 0 where
  pub held : List Bool
  pub left : List ℕ

-- the edge to the parent of a face
abbrev pub parent_edge_of : CotreeTables → ℕ → Option ℕ
parent_edge_of t f = if slice_index t.ups f == nobody then None else Some (slice_index t.ups f)

-- the tree of the tables, rooted at face 0
abbrev pub cotree_of : CotreeTables → Tree
cotree_of t = record { root = 0; parent = slice_index t.parents; up = slice_index t.ups; rank = slice_index t.depths }

-- that tree and the left edges, with a tree of the vertices
abbrev pub split_with : Tree → CotreeTables → Split
split_with tree t = record { tree = tree; cotree = cotree_of t; left = t.left }

-- how many left edges the signatures have room for: all of them, or none where they are more than 1,024
abbrev pub width_for : ℕ → ℕ
width_for loops = if nat_le loops 1024 then loops else 0

-- there is an entry for each face and for each edge, and room for signatures
pub record AreCotreeTables (mesh : Mesh) (t : CotreeTables) : Type 0 where
  pub held : length t.held ≡ edge_count mesh
  pub parents : length t.parents ≡ face_count mesh
  pub ups : length t.ups ≡ face_count mesh
  pub depths : length t.depths ≡ face_count mesh
  pub width : t.width ≡ width_for (loop_count mesh)
  pub signatures : length t.signatures ≡ edge_count mesh
