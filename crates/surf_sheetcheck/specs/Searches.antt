-- A search from a part that settles the nearest node first, up to a limit, over any graph.
use Rattle.std.specs.Prelude.{ℕ, ◌≡◌, ◌≢◌, ◌<◌, ◌≤◌, ◌+◌, ◌⊎◌, true, List, length, Some, Contains}
use Rattle.surf_graphs.specs.Graphs.{Graph, joins}
use Rattle.surf_heap.specs.Entries.{Entries, entry_of}
use Rattle.surf_base.specs.Tables.{at, nobody}

-- the distance of a node that isn't settled
abbrev pub far : ℕ
far = 18446744073709551615

-- the heap has a node, with a key of at most x
pub record HasKey (heap : Entries) (w x : ℕ) : Type 0 where
  pub key : ℕ
  pub tie : ℕ
  pub entry : entry_of heap w ≡ Some (key, tie)
  pub bound : key ≤ x

-- k is the distance of a settled neighbour of w and the length of the edge to it
pub record IsReached (g : Graph) (len dist : ℕ → ℕ) (w k : ℕ) : Type 0 where
  pub before : ℕ
  pub edge : ℕ
  pub before_in : before < g.nodes
  pub edge_in : edge < g.edges
  pub settled : dist before ≢ far
  pub joined : joins g w before edge ≡ true
  pub is : k ≡ dist before + len edge

-- the unsettled neighbours of v, at distance d, that come below the limit have been offered to a heap
pub record IsOffered (g : Graph) (len : ℕ → ℕ) (limit : ℕ) (dist : ℕ → ℕ) (v d : ℕ) (old new : Entries) : Type 0 where
  pub same_length : length new ≡ length old
  pub came : (w k t : ℕ) → entry_of new w ≡ Some (k, t) →
      (entry_of old w ≡ Some (k, t)) ⊎
      ((e : ℕ) × (e < g.edges) × (w < g.nodes) × (joins g w v e ≡ true) × (dist w ≡ far) × (d + len e < limit)
      × (k ≡ d + len e))
  pub kept : (w k t : ℕ) → entry_of old w ≡ Some (k, t) → HasKey new w k
  pub offered : (w e : ℕ) → e < g.edges → joins g v w e ≡ true → dist w ≡ far → d + len e < limit →
      HasKey new w (d + len e)

-- the heap has the nodes of a part, at 0, and nothing else
pub record AreSeeds (part : List ℕ) (nodes : ℕ) (heap : Entries) : Type 0 where
  pub places : length heap ≡ nodes
  pub came : (w k t : ℕ) → entry_of heap w ≡ Some (k, t) → Contains part w × (k ≡ 0)
  pub offered : (w : ℕ) → Contains part w → HasKey heap w 0

-- Each node that is nearer to the part than the limit has its distance, and the others are far. Those that have it are
-- listed, by distance.
pub record AreSettled (g : Graph) (len : ℕ → ℕ) (part : List ℕ) (limit : ℕ) (dist order : List ℕ) : Type 0 where
  pub on_part : (v : ℕ) → Contains part v → at dist v ≡ 0
  pub below : (v : ℕ) → v < g.nodes → at dist v ≢ far → at dist v < limit
  pub near : (u w e : ℕ) → u < g.nodes → w < g.nodes → e < g.edges → joins g u w e ≡ true → at dist u ≢ far →
      at dist u + len e < limit → (at dist w ≢ far) × (at dist w ≤ at dist u + len e)
  pub reached : (w : ℕ) → w < g.nodes → at dist w ≢ far → Contains part w ⊎ IsReached g len (at dist) w (at dist w)
  pub listed : (v : ℕ) → v < g.nodes → at dist v ≢ far → (i : ℕ) × (i < length order) × (at order i ≡ v)
  pub inside : (i : ℕ) → i < length order → at order i < g.nodes
  pub settled : (i : ℕ) → i < length order → at dist (at order i) ≢ far
  pub rise : (i j : ℕ) → i ≤ j → j < length order → at dist (at order i) ≤ at dist (at order j)

-- edge e leads from v to a neighbour u that is nearer by the edge's length
pub record IsTightIn (g : Graph) (len dist : ℕ → ℕ) (v u e : ℕ) : Type 0 where
  pub edge_in : e < g.edges
  pub joined : joins g v u e ≡ true
  pub is : dist u + len e ≡ dist v

-- u is the least such neighbour, and e the edge to it, or there is none
pub record IsLeastTight (g : Graph) (len dist : ℕ → ℕ) (v u e : ℕ) : Type 0 where
  pub least : (w f : ℕ) → IsTightIn g len dist v w f → u ≤ w
  pub tight : u ≢ nobody → (u < g.nodes) × IsTightIn g len dist v u e
