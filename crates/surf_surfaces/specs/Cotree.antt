-- The heaviest tree of faces over the edges outside a tree of vertices, and the edges that are left.
use Rattle.std.specs.Prelude.{◌≡◌, ◌≢◌, ℕ, ◌+◌, ◌<◌, Bool, IsTrue, false, not, ◌&&◌, ◌||◌, ◌==◌, nat_lt, List, filter}
use Rattle.std.specs.List.{range_with_len}
use Rattle.surf_graphs.specs.Cells.{primal, dual, Split}
use Rattle.surf_graphs.specs.Growth.{between}
use Rattle.surf_graphs.specs.Trees.{Tree, IsTree, leads_up}
use Rattle.surf_surfaces.specs.Mesh.{Mesh}
use Rattle.surf_surfaces.specs.Surface.{face_count, edge_count, faces_of, IsSurface}
use Rattle.surf_surfaces.specs.Cells.{cells_of}
use Rattle.surf_surfaces.specs.Loop.{loop_length}

-- the edges between a vertex and its parent
abbrev pub tree_edges : Mesh → Tree → ℕ → Bool
tree_edges mesh tree e = leads_up mesh.vertices tree e

-- the edges between a face and its parent
abbrev pub cotree_edges : Mesh → Tree → ℕ → Bool
cotree_edges mesh cotree e = leads_up (face_count mesh) cotree e

-- whether the edge is in neither tree
abbrev pub is_left : Mesh → Tree → Tree → ℕ → Bool
is_left mesh tree cotree e = not (tree_edges mesh tree e) && not (cotree_edges mesh cotree e)

-- the edges in neither tree, increasing
abbrev pub left_edges : Mesh → Tree → Tree → List ℕ
left_edges mesh tree cotree = filter (is_left mesh tree cotree) (range_with_len 0 (edge_count mesh))

-- the two trees with the left edges
abbrev pub split_of : Mesh → Tree → Tree → Split
split_of mesh tree cotree = record { tree = tree; cotree = cotree; left = left_edges mesh tree cotree }

-- by weight, and by number where they weigh the same
abbrev pub precedes : (ℕ → ℕ) → ℕ → ℕ → Bool
precedes weight a b = nat_lt (weight a) (weight b) || ((weight a == weight b) && nat_lt a b)

-- a tree of all faces, rooted at face 0, with the depths of the faces as ranks
pub record IsDepthTree (mesh : Mesh) (cotree : Tree) : Type 0 where
  pub root : cotree.root ≡ 0
  pub spans : IsTree (dual (cells_of mesh)) cotree
  pub root_depth : cotree.rank 0 ≡ 0
  pub depths : (f : ℕ) → f < face_count mesh → f ≢ 0 → cotree.rank f ≡ cotree.rank (cotree.parent f) + 1

-- a tree of all faces, rooted at face 0 and ranked by depth, over edges outside the tree of vertices. Each
-- left edge precedes, by the length of its loop and then by number, all edges on the way through the tree of
-- faces between its two faces
pub record IsHeaviestCotree (mesh : Mesh) (lengths : List ℕ) (tree cotree : Tree) : Type 0 where
  pub joins_faces : IsDepthTree mesh cotree
  pub outside : (e : ℕ) → e < edge_count mesh → IsTrue (cotree_edges mesh cotree e) →
      tree_edges mesh tree e ≡ false
  pub heaviest : (l c : ℕ) → l < edge_count mesh → IsTrue (is_left mesh tree cotree l) →
      IsTrue (between cotree (faces_of mesh l).0 (faces_of mesh l).1 c) →
      IsTrue (precedes (loop_length mesh lengths tree) l c)

-- the trees have the same edges, parents and depths
pub record SameCotree (mesh : Mesh) (a b : Tree) : Type 0 where
  pub edges : (e : ℕ) → e < edge_count mesh → cotree_edges mesh a e ≡ cotree_edges mesh b e
  pub parents : (f : ℕ) → f < face_count mesh → f ≢ 0 → a.parent f ≡ b.parent f
  pub ups : (f : ℕ) → f < face_count mesh → f ≢ 0 → a.up f ≡ b.up f
  pub depths : (f : ℕ) → f < face_count mesh → a.rank f ≡ b.rank f

-- There is one heaviest cotree: edges, parents and depths.
abbrev pub CotreesAreOne : Type 0
CotreesAreOne =
    (mesh : Mesh) (lengths : List ℕ) (tree a b : Tree) → IsSurface mesh →
    IsTree (primal (cells_of mesh)) tree →
    IsHeaviestCotree mesh lengths tree a → IsHeaviestCotree mesh lengths tree b → SameCotree mesh a b

-- a comes no later than b, by weight and by number
abbrev pub is_no_later : (ℕ → ℕ) → ℕ → ℕ → Bool
is_no_later weight a b = not (precedes weight b a)

-- A tree of all faces outside the tree of vertices is heaviest where each edge outside that comes
-- no later than all edges on the way between its two faces.
abbrev pub HeavyCotreesAreHeaviest : Type 0
HeavyCotreesAreHeaviest =
    (mesh : Mesh) (lengths : List ℕ) (tree cotree : Tree) → IsSurface mesh →
    IsDepthTree mesh cotree →
    ((f : ℕ) → f < face_count mesh → f ≢ 0 → tree_edges mesh tree (cotree.up f) ≡ false) →
    ((l c : ℕ) → l < edge_count mesh → tree_edges mesh tree l ≡ false →
    IsTrue (between cotree (faces_of mesh l).0 (faces_of mesh l).1 c) →
    IsTrue (is_no_later (loop_length mesh lengths tree) l c)) →
    IsHeaviestCotree mesh lengths tree cotree
