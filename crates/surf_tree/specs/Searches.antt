-- A search from a base that settles the nearest node first, over any graph.
use Rattle.std.specs.Prelude.{ℕ, ◌≡◌, ◌≢◌, ◌<◌, ◌≤◌, ◌+◌, ◌*◌, ◌⊎◌, true, length, Some}
use Rattle.surf_graphs.specs.Graphs.{Graph, IsGraph, IsConnectedGraph, joins}
use Rattle.surf_heap.specs.Entries.{Entries, entry_of}
use Rattle.surf_lengths.specs.Lengths.{longest}
use Rattle.surf_base.specs.Tables.{nobody}

-- the distance of a node that isn't settled
abbrev pub far : ℕ
far = 18446744073709551615

-- a connected graph with so few nodes and such short edges that all distances fit
pub record IsSearchable (g : Graph) (len : ℕ → ℕ) : Type 0 where
  pub is_graph : IsGraph g
  pub connected : IsConnectedGraph g
  pub few : g.nodes ≤ longest
  pub short : (e : ℕ) → len e ≤ longest

-- the heap has a node, with a key of at most x
pub record HasKey (heap : Entries) (w x : ℕ) : Type 0 where
  pub key : ℕ
  pub tie : ℕ
  pub entry : entry_of heap w ≡ Some (key, tie)
  pub bound : key ≤ x

-- k is the distance of a settled neighbour of w and the length of the edge to it
pub record IsReached (g : Graph) (len dist : ℕ → ℕ) (w k : ℕ) : Type 0 where
  pub before : ℕ
  pub edge : ℕ
  pub before_in : before < g.nodes
  pub edge_in : edge < g.edges
  pub settled : dist before ≢ far
  pub joined : joins g w before edge ≡ true
  pub is : k ≡ dist before + len edge

-- the unsettled neighbours of v, at distance d, have been offered to a heap
pub record IsOffered (g : Graph) (len dist : ℕ → ℕ) (v d : ℕ) (old new : Entries) : Type 0 where
  pub same_length : length new ≡ length old
  pub came : (w k t : ℕ) → entry_of new w ≡ Some (k, t) →
      (entry_of old w ≡ Some (k, t)) ⊎
      ((e : ℕ) × (e < g.edges) × (w < g.nodes) × (joins g w v e ≡ true) × (dist w ≡ far) × (k ≡ d + len e))
  pub kept : (w k t : ℕ) → entry_of old w ≡ Some (k, t) → HasKey new w k
  pub offered : (w e : ℕ) → e < g.edges → joins g v w e ≡ true → dist w ≡ far → HasKey new w (d + len e)

-- each node has its distance from the base
pub record IsSettled (g : Graph) (len : ℕ → ℕ) (base : ℕ) (dist : ℕ → ℕ) : Type 0 where
  pub at_base : dist base ≡ 0
  pub fits : (u : ℕ) → u < g.nodes → dist u + longest ≤ g.nodes * longest
  pub near : (u w e : ℕ) → u < g.nodes → w < g.nodes → e < g.edges → joins g u w e ≡ true → dist w ≤ dist u + len e
  pub tight : (w : ℕ) → w < g.nodes → w ≢ base → IsReached g len dist w (dist w)

-- edge e leads from v to a neighbour u that is nearer by the edge's length
pub record IsTight (g : Graph) (len dist : ℕ → ℕ) (v u e : ℕ) : Type 0 where
  pub edge_in : e < g.edges
  pub joined : joins g v u e ≡ true
  pub is : dist u + len e ≡ dist v

-- u is the least-numbered tight neighbour, and e the edge to it, or there is none
pub record IsLeastTight (g : Graph) (len dist : ℕ → ℕ) (v u e : ℕ) : Type 0 where
  pub least : (w f : ℕ) → IsTight g len dist v w f → u ≤ w
  pub tight : u ≢ nobody → (u < g.nodes) × IsTight g len dist v u e
