-- Cell complexes: vertices, edges and faces by their numbers, and the signatures of edges by two trees.
use Rattle.std.specs.Prelude.{ℕ, ◌≡◌, ◌<◌, ◌≤◌, Bool, true, false, ◌&&◌, List, [], ◌∷◌, length, slice_index}
use Rattle.std.specs.Prelude.{if◌then◌else◌, ◌==◌}
use Rattle.surf_z2.specs.Parity.{xor, odd_below}
use Rattle.surf_graphs.specs.Graphs.{Graph, IsGraph, IsConnectedGraph, leaves, graph_touches, edge_between}
use Rattle.surf_graphs.specs.Trees.{Tree, IsTree, in_tree, on_path, graph_loop_length}

-- vertices, edges and faces by their numbers. An edge runs between two vertices and lies between two faces
pub record Cells : Type 0 where
  pub vertices : ℕ
  pub edges : ℕ
  pub faces : ℕ
  -- the ends of an edge
  pub tail : ℕ → ℕ
  pub head : ℕ → ℕ
  -- the faces of an edge
  pub near : ℕ → ℕ
  pub far : ℕ → ℕ

-- the vertices with the edges
abbrev pub primal : Cells → Graph
primal s = record { nodes = s.vertices; edges = s.edges; from = s.tail; to = s.head }

-- the faces with the edges
abbrev pub dual : Cells → Graph
dual s = record { nodes = s.faces; edges = s.edges; from = s.near; to = s.far }

-- both graphs are connected, and each face has an even number of edges at each vertex
pub record IsCellComplex (s : Cells) : Type 0 where
  pub primal_ends : IsGraph (primal s)
  pub dual_ends : IsGraph (dual s)
  pub primal_connected : IsConnectedGraph (primal s)
  pub dual_connected : IsConnectedGraph (dual s)
  pub corners_even : (v f : ℕ) → v < s.vertices → f < s.faces →
      odd_below s.edges (λ e. graph_touches (primal s) v e && graph_touches (dual s) f e) ≡ false

-- the edges that have exactly one of their two faces in the set
abbrev pub cell_boundary : Cells → (ℕ → Bool) → ℕ → Bool
cell_boundary s set e = leaves (dual s) set e

-- the chain is the boundary of a set of faces
abbrev pub IsNullChain : Cells → (ℕ → Bool) → Type 0
IsNullChain s chain = (set : ℕ → Bool) × ((e : ℕ) → e < s.edges → chain e ≡ cell_boundary s set e)

-- a tree of the vertices, a tree of the faces, and the edges that are left, which a list has in order
pub record Split : Type 0 where
  pub tree : Tree
  pub cotree : Tree
  pub left : List ℕ

-- each edge is in exactly one of the three
pub record IsSplit (s : Cells) (d : Split) : Type 0 where
  pub tree_is : IsTree (primal s) d.tree
  pub cotree_is : IsTree (dual s) d.cotree
  pub apart : (e : ℕ) → e < s.edges → in_tree (primal s) d.tree e ≡ true → in_tree (dual s) d.cotree e ≡ false
  pub left_rises : (i j : ℕ) → i < j → j < length d.left → slice_index d.left i < slice_index d.left j
  pub left_in : (k : ℕ) → k < length d.left → slice_index d.left k < s.edges
  pub left_outside : (k : ℕ) → k < length d.left → in_tree (primal s) d.tree (slice_index d.left k) ≡ false
  pub left_outside_dual : (k : ℕ) → k < length d.left →
      in_tree (dual s) d.cotree (slice_index d.left k) ≡ false
  pub left_whole : (e : ℕ) → e < s.edges → in_tree (primal s) d.tree e ≡ false →
      in_tree (dual s) d.cotree e ≡ false → (k : ℕ) × (k < length d.left) × (slice_index d.left k ≡ e)

-- the two faces of edge l lie on different sides when edge c is taken out of the cotree: c is on one of
-- their paths to the root, and not on both
abbrev pub parts : Cells → Split → ℕ → ℕ → Bool
parts s d c l = leaves (dual s) (λ f. on_path d.cotree f c) l

-- whether the signature of edge e has k: an edge of the tree has none, one of the cotree those whose
-- left edge it parts, the k-th left edge k alone
abbrev pub signature : Cells → Split → ℕ → ℕ → Bool
signature s d e k =
    if in_tree (primal s) d.tree e then false
    else (
    if in_tree (dual s) d.cotree e then parts s d e (slice_index d.left k) else (slice_index d.left k == e)
    )

-- the sum of the signatures of a chain's edges
abbrev pub chain_signature : Cells → Split → (ℕ → Bool) → ℕ → Bool
chain_signature s d chain k = odd_below s.edges (λ e. chain e && signature s d e k)

-- the sum of the signatures over a walk's steps
abbrev pub graph_walk_signature : Cells → Split → ℕ → List ℕ → ℕ → Bool
graph_walk_signature s d a [] k = false
graph_walk_signature s d a (b ∷ w) k =
    xor (signature s d (edge_between (primal s) a b) k) (graph_walk_signature s d b w k)

-- no left edge could take the place of an edge of the cotree with a shorter loop
abbrev pub IsHeaviest : Cells → (ℕ → ℕ) → Split → Type 0
IsHeaviest s len d = (k e : ℕ) → k < length d.left → e < s.edges → in_tree (dual s) d.cotree e ≡ true →
    parts s d e (slice_index d.left k) ≡ true →
    graph_loop_length (primal s) len d.tree (slice_index d.left k) ≤ graph_loop_length (primal s) len d.tree e
