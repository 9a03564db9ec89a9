-- Faces that hang on the others by one edge, taken off and hung on again.
use Rattle.std.specs.Prelude.{ℕ, zero, suc, ◌≡◌, ◌≢◌, ◌<◌, ◌≤◌, ◌&&◌, ◌==◌, Bool, true, not, List, length}
use Rattle.std.specs.Prelude.{slice_index_or, slice_set, Option, Some, None}
use Rattle.surf_z2.specs.Parity.{count_below}
use Rattle.surf_graphs.specs.Graphs.{Graph, joins}
use Rattle.surf_heap.specs.Entries.{Entries, IsEmpty}
use Rattle.surf_base.specs.Tables.{nobody, at}
use Rattle.surf_cotree.specs.Searches.{heaviest, outside, reached, spanned_tree, IsPrim}

-- a node that hangs on the others by one edge, that edge, and the node beyond it
pub record Leaf : Type 0 where
  pub face : ℕ
  pub edge : ℕ
  pub on : ℕ

abbrev pub leaf_at : List Leaf → ℕ → Leaf
leaf_at leaves k = slice_index_or leaves k (record { face = 0; edge = 0; on = 0 })

-- the allowed edges that are left when the first n leaves have been taken off, each with its edge
abbrev pub left_after : (ℕ → Bool) → List Leaf → ℕ → ℕ → Bool
left_after allowed leaves zero e = allowed e
left_after allowed leaves (suc n) e = left_after allowed leaves n e && not (e == (leaf_at leaves n).edge)

-- of the edges that are left, e alone is at node f, and it leads to node a
pub record IsOnlyEdge (g : Graph) (rest : ℕ → Bool) (f a e : ℕ) : Type 0 where
  pub edge_in : e < g.edges
  pub is_left : rest e ≡ true
  pub other_in : a < g.nodes
  pub joined : joins g f a e ≡ true
  pub only : (l w : ℕ) → l < g.edges → rest l ≡ true → joins g f w l ≡ true → l ≡ e

-- A node other than 0 is taken off that hangs on the others by one edge without a mark, and the edge is marked: it and
-- the node beyond it are given. Or nothing is taken.
abbrev pub TakesLeaf : Graph → List Bool → List Bool → ℕ → Option (ℕ × ℕ) → Type 0
TakesLeaf g old new f None = new ≡ old
TakesLeaf g old new f (Some taken) =
    (f ≢ 0) × IsOnlyEdge g (outside old) f taken.1 taken.0 × (new ≡ slice_set old taken.0 true)

-- when the leaves before it have been taken off, a leaf hangs on the other nodes by its edge alone. Node 0 stays
pub record IsLeaf (g : Graph) (allowed : ℕ → Bool) (leaves : List Leaf) (k : ℕ) : Type 0 where
  pub node_in : (leaf_at leaves k).face < g.nodes
  pub not_first : (leaf_at leaves k).face ≢ 0
  pub hangs : IsOnlyEdge g (left_after allowed leaves k) (leaf_at leaves k).face (leaf_at leaves k).on
      (leaf_at leaves k).edge

-- the first n leaves have been taken off one after the other, and the rest of the edges is left
pub record IsPeeled (g : Graph) (allowed : ℕ → Bool) (leaves : List Leaf) (n : ℕ) (rest : ℕ → Bool) : Type 0 where
  pub few : n ≤ length leaves
  pub leaf : (k : ℕ) → k < n → IsLeaf g allowed leaves k
  pub rest_is : (e : ℕ) → rest e ≡ left_after allowed leaves n e

-- some leaves have been taken off one after the other, and the rest of the edges is left
pub record IsPeeledTo (g : Graph) (allowed rest : ℕ → Bool) : Type 0 where
  pub leaves : List Leaf
  pub peeled : IsPeeled g allowed leaves (length leaves) rest

-- A search over the edges that are left after n leaves is at its end: no node waits. The other leaves have been hung.
pub record IsHung (g : Graph) (allowed : ℕ → Bool) (weight : ℕ → ℕ) (leaves : List Leaf) (n : ℕ)
    (parent up depth : List ℕ) : Type 0 where
  pub light : (e : ℕ) → weight e ≤ heaviest
  pub few : n ≤ length leaves
  pub leaf : (k : ℕ) → k < n → IsLeaf g allowed leaves k
  pub root : at up 0 ≡ nobody
  pub heap : Entries
  pub places : length heap ≡ g.nodes
  pub empty : IsEmpty heap
  pub prim : IsPrim g (left_after allowed leaves n) weight (reached depth) (spanned_tree 0 parent up depth) heap
      (count_below g.nodes (λ v. at depth v == nobody))

-- the listed edges are those of n leaves that have been taken off one after the other
pub record IsPeeledBy (g : Graph) (allowed : ℕ → Bool) (edges : List ℕ) (n : ℕ) (rest : ℕ → Bool) : Type 0 where
  pub leaves : List Leaf
  pub as_many : length leaves ≡ length edges
  pub by : (k : ℕ) → k < n → at edges k ≡ (leaf_at leaves k).edge
  pub peeled : IsPeeled g allowed leaves n rest

-- the listed edges are those of n leaves that are still to be hung
pub record IsHungBy (g : Graph) (allowed : ℕ → Bool) (weight : ℕ → ℕ) (edges : List ℕ) (n : ℕ)
    (parent up depth : List ℕ) : Type 0 where
  pub leaves : List Leaf
  pub few : n ≤ length edges
  pub by : (k : ℕ) → k < n → at edges k ≡ (leaf_at leaves k).edge
  pub hung : IsHung g allowed weight leaves n parent up depth
