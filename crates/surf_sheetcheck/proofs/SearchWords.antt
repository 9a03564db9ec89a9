-- Words on a search from a part as it runs.
use Rattle.surf_surfaces.proofs.Common.{ℕ, ◌≡◌, ◌≢◌, ◌<◌, ◌≤◌, ◌+◌, ◌*◌, ◌⊎◌, true, List, length, Some, Contains, Graph, joins}
use Rattle.surf_heap.specs.Entries.{Entries, entry_of}
use Rattle.surf_lengths.specs.Lengths.{longest}
use Rattle.surf_base.specs.Tables.{at}
use Rattle.surf_sheetcheck.specs.Searches.{far, HasKey, IsReached}

-- k is 0 at a node of the part, or comes over a settled neighbour
abbrev pub ComesFrom : Graph → (ℕ → ℕ) → List ℕ → (ℕ → ℕ) → ℕ → ℕ → Type 0
ComesFrom g len part dist w k = (Contains part w × (k ≡ 0)) ⊎ IsReached g len dist w k

-- a node in the heap, with its key
pub record IsOutside (g : Graph) (len : ℕ → ℕ) (part : List ℕ) (limit : ℕ) (dist : ℕ → ℕ) (last left w k : ℕ) : Type 0 where
  pub within : w < g.nodes
  pub unsettled : dist w ≡ far
  pub later : last ≤ k
  pub fits : k + left * longest ≤ g.nodes * longest
  pub under : k < limit
  pub reached : ComesFrom g len part dist w k

-- a node whose key in the heap is least
pub record IsNext (heap : Entries) (v k t : ℕ) : Type 0 where
  pub within : v < length heap
  pub holds : entry_of heap v ≡ Some (k, t)
  pub least : (w k2 t2 : ℕ) → entry_of heap w ≡ Some (k2, t2) → k ≤ k2

-- The state of a search: the settled nodes have their distances, of which the last settled is greatest, and the
-- heap has the nodes of the part and those that settled ones have edges to. `left` nodes are unsettled.
pub record IsSearch (g : Graph) (len : ℕ → ℕ) (part : List ℕ) (limit : ℕ) (dist : ℕ → ℕ) (heap : Entries) (last left : ℕ) : Type 0 where
  pub outside : (w k t : ℕ) → entry_of heap w ≡ Some (k, t) → IsOutside g len part limit dist last left w k
  pub offered : (u w e : ℕ) → u < g.nodes → w < g.nodes → e < g.edges → joins g u w e ≡ true → dist u ≢ far → dist w ≡ far → dist u + len e < limit → HasKey heap w (dist u + len e)
  pub settled : (u : ℕ) → u < g.nodes → dist u ≢ far → dist u ≤ last
  pub below : (u : ℕ) → u < g.nodes → dist u ≢ far → dist u < limit
  pub near : (u w e : ℕ) → u < g.nodes → w < g.nodes → e < g.edges → joins g u w e ≡ true → dist u ≢ far → dist w ≢ far → dist w ≤ dist u + len e
  pub reached : (w : ℕ) → w < g.nodes → dist w ≢ far → ComesFrom g len part dist w (dist w)
  pub seeds : (w : ℕ) → Contains part w → (dist w ≡ 0) ⊎ ((dist w ≡ far) × HasKey heap w 0)

-- the settled nodes are listed, by distance
pub record IsOrder (nodes : ℕ) (dist order : List ℕ) (last : ℕ) : Type 0 where
  pub listed : (v : ℕ) → v < nodes → at dist v ≢ far → (i : ℕ) × (i < length order) × (at order i ≡ v)
  pub inside : (i : ℕ) → i < length order → at order i < nodes
  pub settled : (i : ℕ) → i < length order → at dist (at order i) ≢ far
  pub up_to : (i : ℕ) → i < length order → at dist (at order i) ≤ last
  pub rise : (i j : ℕ) → i ≤ j → j < length order → at dist (at order i) ≤ at dist (at order j)

-- what the first n edges of a node's row offer
pub record IsOfferedSome (g : Graph) (len : ℕ → ℕ) (limit : ℕ) (dist : ℕ → ℕ) (v d : ℕ) (old new : Entries) (neighbour number : ℕ → ℕ) (n : ℕ) : Type 0 where
  pub same_length : length new ≡ length old
  pub came : (w k t : ℕ) → entry_of new w ≡ Some (k, t) → (entry_of old w ≡ Some (k, t)) ⊎ ((e : ℕ) × (e < g.edges) × (w < g.nodes) × (joins g w v e ≡ true) × (dist w ≡ far) × (d + len e < limit) × (k ≡ d + len e))
  pub kept : (w k t : ℕ) → entry_of old w ≡ Some (k, t) → HasKey new w k
  pub offered : (i : ℕ) → i < n → dist (neighbour i) ≡ far → d + len (number i) < limit → HasKey new (neighbour i) (d + len (number i))
