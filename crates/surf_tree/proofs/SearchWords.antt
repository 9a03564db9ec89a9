-- Words on searches as they run: what waits, what is offered, and a tree as it grows.
use Rattle.surf_surfaces.proofs.Common.{ℕ, ◌≡◌, ◌≢◌, ◌<◌, ◌≤◌, ◌+◌, ◌*◌, ◌⊎◌, true, length, Some, false, List, slice_index, slice_index_or, Graph, joins, IsGraphWalk, graph_walk_length, IsTree, IsShortest, in_tree, IsSimple}
use Rattle.surf_heap.specs.Entries.{Entries, entry_of}
use Rattle.surf_lengths.specs.Lengths.{longest}
use Rattle.surf_tree.specs.Searches.{far, HasKey, IsReached, IsLeastTight}
use Rattle.surf_base.specs.Tables.{nobody}
use Rattle.surf_tree.specs.Tables.{TreeTables, tree_of}

-- a node in the heap, with its key
pub record IsOutside (g : Graph) (len : ℕ → ℕ) (base : ℕ) (dist : ℕ → ℕ) (last left w k : ℕ) : Type 0 where
  pub within : w < g.nodes
  pub unsettled : dist w ≡ far
  pub later : last ≤ k
  pub fits : k + left * longest ≤ g.nodes * longest
  pub reached : w ≢ base → IsReached g len dist w k

-- a node whose key in the heap is least
pub record IsNext (heap : Entries) (v k t : ℕ) : Type 0 where
  pub within : v < length heap
  pub holds : entry_of heap v ≡ Some (k, t)
  pub least : (w k2 t2 : ℕ) → entry_of heap w ≡ Some (k2, t2) → k ≤ k2

-- The state of a search: the settled nodes have their distances, of which the last settled is greatest, and the
-- heap has the nodes that they have edges to. `left` nodes are unsettled.
pub record IsSearch (g : Graph) (len : ℕ → ℕ) (base : ℕ) (dist : ℕ → ℕ) (heap : Entries) (last left : ℕ) : Type 0 where
  pub outside : (w k t : ℕ) → entry_of heap w ≡ Some (k, t) → IsOutside g len base dist last left w k
  pub offered : (u w e : ℕ) → u < g.nodes → w < g.nodes → e < g.edges → joins g u w e ≡ true → dist u ≢ far → dist w ≡ far → HasKey heap w (dist u + len e)
  pub settled : (u : ℕ) → u < g.nodes → dist u ≢ far → dist u ≤ last
  pub fits : (u : ℕ) → u < g.nodes → dist u ≢ far → dist u + longest ≤ g.nodes * longest
  pub near : (u w e : ℕ) → u < g.nodes → w < g.nodes → e < g.edges → joins g u w e ≡ true → dist u ≢ far → dist w ≢ far → dist w ≤ dist u + len e
  pub tight : (w : ℕ) → w < g.nodes → w ≢ base → dist w ≢ far → IsReached g len dist w (dist w)
  pub base_first : (dist base ≡ 0) ⊎ ((dist base ≡ far) × HasKey heap base 0)

-- what the first n edges of a node's row offer (IsOffered is of all its edges)
pub record IsOfferedSome (g : Graph) (len dist : ℕ → ℕ) (v d : ℕ) (old new : Entries) (neighbour number : ℕ → ℕ) (n : ℕ) : Type 0 where
  pub same_length : length new ≡ length old
  pub came : (w k t : ℕ) → entry_of new w ≡ Some (k, t) → (entry_of old w ≡ Some (k, t)) ⊎ ((e : ℕ) × (e < g.edges) × (w < g.nodes) × (joins g w v e ≡ true) × (dist w ≡ far) × (k ≡ d + len e))
  pub kept : (w k t : ℕ) → entry_of old w ≡ Some (k, t) → HasKey new w k
  pub offered : (i : ℕ) → i < n → dist (neighbour i) ≡ far → HasKey new (neighbour i) (d + len (number i))

-- d is the least length of a walk from the base to v, in a graph
abbrev pub IsDistanceIn : Graph → (ℕ → ℕ) → ℕ → ℕ → ℕ → Type 0
IsDistanceIn g len base v d =
    ((w : List ℕ) × IsGraphWalk g base w v × (graph_walk_length g len base w ≡ d)) × ((w : List ℕ) → IsGraphWalk g base w v → d ≤ graph_walk_length g len base w)

-- the tables are of the tree of shortest walks of a graph, with least parents
pub record IsGrownIn (g : Graph) (len : ℕ → ℕ) (t : TreeTables) : Type 0 where
  pub tree : IsTree g (tree_of t)
  pub shortest : IsShortest g len (tree_of t)
  pub distances : IsSimple g → (v : ℕ) → v < g.nodes → IsDistanceIn g len t.base v (slice_index t.distances v)
  pub parents : (v : ℕ) → v < g.nodes →
      IsLeastTight g len (slice_index t.distances) v (slice_index t.parents v) (slice_index t.ups v)
  pub fits : (v : ℕ) → v < g.nodes → slice_index t.distances v + longest ≤ g.nodes * longest
  pub has_parent : (v : ℕ) → v < g.nodes → v ≢ t.base → slice_index t.parents v ≢ nobody
  pub base_parent : slice_index t.parents t.base ≡ nobody
  pub flags : (e : ℕ) → e < g.edges → slice_index_or t.flags e false ≡ in_tree g (tree_of t) e
