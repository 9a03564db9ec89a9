-- When a loop certificate is valid for a mesh and lengths. Each condition speaks of one row, edge or pair.
use Rattle.std.specs.List.{list_any}
use Rattle.std.specs.Prelude.{◌≡◌, ◌≢◌, ℕ, ◌+◌, ◌<◌, ◌≤◌, ◌==◌, Bool, true, false, not, ◌&&◌, if◌then◌else◌, List}
use Rattle.std.specs.Prelude.{length, map, sum, All, Contains, slice_index, slice_index_or, Option, Some, None}
use Rattle.std.specs.Prelude.{unwrap_or}
use Rattle.std.specs.Option.{option_map_or}
use Rattle.surf_z2.specs.Parity.{any_below}
use Rattle.surf_graphs.specs.Growth.{between}
use Rattle.surf_graphs.specs.Trees.{Tree}
use Rattle.surf_surfaces.specs.Mesh.{Mesh, pair, pair_of, pair_eq, edges}
use Rattle.surf_surfaces.specs.Surface.{face_count, edge_count, face_at, ends, has_side, faces_of}
use Rattle.surf_surfaces.specs.Walk.{edge_length, edge_number}
use Rattle.surf_surfaces.specs.Homology.{IsLoopCount}
use Rattle.surf_surfaces.specs.Loop.{loop_walk}
use Rattle.surf_validity.specs.Rows.{TreeRows, DualRows, LoopCert}

-- ---- rows

abbrev pub distance_at : TreeRows → ℕ → ℕ
distance_at rows v = slice_index rows.distance v

abbrev pub parent_at : TreeRows → ℕ → Option ℕ
parent_at rows v = slice_index_or rows.parent v None

abbrev pub depth_at : DualRows → ℕ → ℕ
depth_at dual f = slice_index dual.depth f

abbrev pub side_at : DualRows → ℕ → Option (ℕ × ℕ)
side_at dual f = slice_index_or dual.side f None

-- the tree of vertices that the rows say
abbrev pub certified_tree : Mesh → TreeRows → Tree
certified_tree mesh rows = record {
  root = rows.base;
  parent = λ v. unwrap_or (parent_at rows v) 0;
  up = λ v. edge_number mesh (unwrap_or (parent_at rows v) 0, v);
  rank = distance_at rows;
}

-- the face on the other side of an edge of a face
abbrev pub across : Mesh → ℕ → ℕ × ℕ → ℕ
across mesh f side =
    if f == (faces_of mesh (edge_number mesh side)).0 then (faces_of mesh (edge_number mesh side)).1
    else (faces_of mesh (edge_number mesh side)).0

-- the tree of faces that the rows say
abbrev pub dual_tree : Mesh → DualRows → Tree
dual_tree mesh dual = record {
  root = 0;
  parent = λ f. across mesh f (unwrap_or (side_at dual f) (0, 0));
  up = λ f. edge_number mesh (unwrap_or (side_at dual f) (0, 0));
  rank = depth_at dual;
}

-- ---- the tree of vertices

-- the base has no parent, and each other vertex a neighbour
abbrev pub IsParent : Mesh → ℕ → ℕ → Option ℕ → Type 0
IsParent mesh base v None = v ≡ base
IsParent mesh base v (Some p) = (v ≢ base) × Contains (edges mesh) (pair p v)

-- the distance of the base is 0, and that of each other vertex its parent's and the length of the edge to it
abbrev pub AddsUp : Mesh → List ℕ → TreeRows → ℕ → Option ℕ → Type 0
AddsUp mesh lengths rows v None = distance_at rows v ≡ 0
AddsUp mesh lengths rows v (Some p) =
    distance_at rows v ≡ distance_at rows p + edge_length lengths (edge_number mesh (p, v))

-- the distances of the ends of an edge differ by at most its length
abbrev pub IsNoShortCut : Mesh → List ℕ → TreeRows → ℕ → Type 0
IsNoShortCut mesh lengths rows e =
    (distance_at rows (ends mesh e).1 ≤ distance_at rows (ends mesh e).0 + edge_length lengths e)
    × (distance_at rows (ends mesh e).0 ≤ distance_at rows (ends mesh e).1 + edge_length lengths e)

-- the rows are a tree of shortest walks
pub record IsTreeValid (mesh : Mesh) (lengths : List ℕ) (rows : TreeRows) : Type 0 where
  pub parents : (v : ℕ) → v < mesh.vertices → IsParent mesh rows.base v (parent_at rows v)
  pub distances : (v : ℕ) → v < mesh.vertices → AddsUp mesh lengths rows v (parent_at rows v)
  pub slack : (e : ℕ) → e < edge_count mesh → IsNoShortCut mesh lengths rows e

-- ---- the tree of faces

-- face 0 has no side and depth 0, and each other face one of its own sides and one more than the depth across it
abbrev pub IsDualRow : Mesh → DualRows → ℕ → Option (ℕ × ℕ) → Type 0
IsDualRow mesh dual f None = (f ≡ 0) × (depth_at dual f ≡ 0)
IsDualRow mesh dual f (Some side) = (f ≢ 0) × (has_side (pair_of side) (face_at mesh f) ≡ true)
    × (depth_at dual f ≡ depth_at dual (across mesh f side) + 1)

abbrev pub IsDualValid : Mesh → DualRows → Type 0
IsDualValid mesh dual = (f : ℕ) → f < face_count mesh → IsDualRow mesh dual f (side_at dual f)

-- ---- each edge is in one of three sets

-- whether the edge is that between a vertex and its parent
abbrev pub leads_up : Mesh → ℕ → ℕ → Option ℕ → Bool
leads_up mesh e v parent = option_map_or (λ p. pair_eq (ends mesh e) (pair p v)) parent false

-- whether the edge is the side
abbrev pub is_side : Mesh → ℕ → Option (ℕ × ℕ) → Bool
is_side mesh e side = option_map_or (λ s. pair_eq (ends mesh e) (pair_of s)) side false

abbrev pub is_parent_edge : Mesh → TreeRows → ℕ → Bool
is_parent_edge mesh rows e = any_below mesh.vertices (λ v. leads_up mesh e v (parent_at rows v))

abbrev pub is_dual_edge : Mesh → DualRows → ℕ → Bool
is_dual_edge mesh dual e = any_below (face_count mesh) (λ f. is_side mesh e (side_at dual f))

abbrev pub is_listed : Mesh → List (ℕ × ℕ) → ℕ → Bool
is_listed mesh left e = list_any (λ p. pair_eq (ends mesh e) (pair_of p)) left

-- just one of three
abbrev pub just_one : Bool → Bool → Bool → Bool
just_one a b c = if a then (not b && not c) else (if b then not c else c)

-- each pair that is listed as left is an edge, and each edge is in just one of the tree of vertices, the tree of faces
-- and the list
pub record IsDivided (mesh : Mesh) (rows : TreeRows) (dual : DualRows) (left : List (ℕ × ℕ)) : Type 0 where
  pub are_edges : All (λ p. Contains (edges mesh) (pair_of p)) left
  pub divided : (e : ℕ) → e < edge_count mesh →
      just_one (is_parent_edge mesh rows e) (is_dual_edge mesh dual e) (is_listed mesh left e) ≡ true

-- ---- loops

-- how long the loop of an edge is: the distances of its ends and its own length
abbrev pub loop_size : Mesh → List ℕ → TreeRows → ℕ → ℕ
loop_size mesh lengths rows e =
    distance_at rows (ends mesh e).0 + edge_length lengths e + distance_at rows (ends mesh e).1

-- where edge c is on the way through the tree of faces between the two faces of edge l, its loop is no shorter than
-- that of l
abbrev pub IsNotHeavier : Mesh → List ℕ → LoopCert → ℕ → ℕ → Type 0
IsNotHeavier mesh lengths cert l c =
    between (dual_tree mesh cert.dual) (faces_of mesh l).0 (faces_of mesh l).1 c ≡ true →
    loop_size mesh lengths cert.tree l ≤ loop_size mesh lengths cert.tree c

-- a left edge has no such edge with a shorter loop
abbrev pub HasNoShorter : Mesh → List ℕ → LoopCert → ℕ → Type 0
HasNoShorter mesh lengths cert l =
    is_listed mesh cert.left l ≡ true → (c : ℕ) → c < edge_count mesh → IsNotHeavier mesh lengths cert l c

-- ---- the certificate

-- there is a row for each vertex
pub record HasTreeRows (mesh : Mesh) (rows : TreeRows) : Type 0 where
  pub distances : length rows.distance ≡ mesh.vertices
  pub parents : length rows.parent ≡ mesh.vertices

-- there is a row for each face
pub record HasDualRows (mesh : Mesh) (dual : DualRows) : Type 0 where
  pub depths : length dual.depth ≡ face_count mesh
  pub sides : length dual.side ≡ face_count mesh

-- the lists are as long as the mesh asks for, and the base is a vertex
pub record HasShape (mesh : Mesh) (cert : LoopCert) : Type 0 where
  pub vertices : HasTreeRows mesh cert.tree
  pub faces : HasDualRows mesh cert.dual
  pub loops : IsLoopCount mesh (length cert.left)
  pub base : cert.tree.base < mesh.vertices

-- a certificate of loops is valid
pub record IsValidLoops (mesh : Mesh) (lengths : List ℕ) (cert : LoopCert) : Type 0 where
  pub shape : HasShape mesh cert
  pub tree : IsTreeValid mesh lengths cert.tree
  pub dual : IsDualValid mesh cert.dual
  pub divided : IsDivided mesh cert.tree cert.dual cert.left
  pub heaviest : (l : ℕ) → l < edge_count mesh → HasNoShorter mesh lengths cert l

-- the loops of the left edges through the tree, in their order
abbrev pub certified_loops : Mesh → LoopCert → List (List ℕ)
certified_loops mesh cert = map (λ p. loop_walk mesh (certified_tree mesh cert.tree) (edge_number mesh p)) cert.left

-- the sum of their lengths
abbrev pub loops_total : Mesh → List ℕ → LoopCert → ℕ
loops_total mesh lengths cert = sum (map (λ p. loop_size mesh lengths cert.tree (edge_number mesh p)) cert.left)
