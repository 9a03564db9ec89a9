-- The states of a search that goes no farther than a radius, over any graph.
use Rattle.std.specs.Prelude.{ℕ, ◌≡◌, ◌≢◌, ◌<◌, ◌≤◌, ◌+◌, ◌*◌, ◌⊎◌, ◌==◌, true, List, length, Some}
use Rattle.surf_z2.specs.Parity.{count_below}
use Rattle.surf_graphs.specs.Graphs.{Graph, joins}
use Rattle.surf_heap.specs.Entries.{Entries, entry_of}
use Rattle.surf_lengths.specs.Lengths.{longest}
use Rattle.surf_base.specs.Tables.{at}
use Rattle.surf_tree.specs.Searches.{IsReached, IsOffered, IsTight, IsLeastTight}
use Rattle.surf_near.specs.Near.{never}
use Rattle.surf_near.specs.Links.{LinkTables, graph_of, weight_of}
use Rattle.surf_near.specs.declared.tables.Tables.{Tables}
use Rattle.surf_near.specs.declared.tables.Choice.{Choice}

-- the distances of settled nodes leave room for one more edge
abbrev pub IsShort : ℕ → (ℕ → ℕ) → Type 0
IsShort nodes dist = (u : ℕ) → u < nodes → dist u ≢ never → dist u + longest < never

-- p is the least tight neighbour of v, e the edge to it, and m the least of v and of what its tight neighbours have
pub record IsChoice (g : Graph) (len dist least : ℕ → ℕ) (v p e m : ℕ) : Type 0 where
  pub parent : IsLeastTight g len dist v p e
  pub own : m ≤ v
  pub before : (u f : ℕ) → IsTight g len dist v u f → m ≤ least u
  pub one : (m ≡ v) ⊎ ((u f : ℕ) × (u < g.nodes) × IsTight g len dist v u f × (m ≡ least u))

-- a fringe has what a wider one has, as far as a radius
pub record IsTrimmed (radius : ℕ) (wide heap : Entries) : Type 0 where
  pub same_length : length heap ≡ length wide
  pub here : (w k t : ℕ) → entry_of heap w ≡ Some (k, t) → (entry_of wide w ≡ Some (k, t)) × (k ≤ radius)
  pub there : (w k t : ℕ) → entry_of wide w ≡ Some (k, t) → k ≤ radius → entry_of heap w ≡ Some (k, t)

-- the unsettled neighbours of v, at distance d, have been offered to a fringe, as far as a radius
abbrev pub OffersNear : Graph → (ℕ → ℕ) → (ℕ → ℕ) → ℕ → ℕ → ℕ → Entries → Entries → Type 0
OffersNear g len dist v d radius old new = (wide : Entries) → IsTrimmed radius wide old →
    (wider : Entries) × IsOffered g len dist v d wide wider × IsTrimmed radius wider new

-- each settled node is listed
abbrev pub ListsSettled : List ℕ → List ℕ → Type 0
ListsSettled order dist =
    (v : ℕ) → v < length dist → at dist v ≢ never → (i : ℕ) × (i < length order) × (at order i ≡ v)

-- the settled nodes stand in a list in order of distance
pub record IsListed (nodes : ℕ) (dist order : ℕ → ℕ) (count : ℕ) : Type 0 where
  pub inside : (i : ℕ) → i < count → order i < nodes
  pub settled : (i : ℕ) → i < count → dist (order i) ≢ never
  pub all : (v : ℕ) → v < nodes → dist v ≢ never → (i : ℕ) × (i < count) × (order i ≡ v)
  pub rise : (i j : ℕ) → i < j → j < count → dist (order i) ≤ dist (order j)

-- each settled node has its distance from the base, and no other node is within the radius
pub record IsReachedNear (g : Graph) (len : ℕ → ℕ) (base radius : ℕ) (dist : ℕ → ℕ) : Type 0 where
  pub at_base : dist base ≡ 0
  pub within : (u : ℕ) → u < g.nodes → dist u ≢ never → dist u ≤ radius
  pub fits : (u : ℕ) → u < g.nodes → dist u ≢ never → dist u + longest ≤ g.nodes * longest
  pub near : (u w e : ℕ) → u < g.nodes → w < g.nodes → e < g.edges → joins g u w e ≡ true → dist u ≢ never →
      dist u + len e ≤ radius → (dist w ≢ never) × (dist w ≤ dist u + len e)
  pub tight : (w : ℕ) → w < g.nodes → w ≢ base → dist w ≢ never → IsReached g len dist w (dist w)

-- what the tables have of a node has been chosen
abbrev pub IsChosenAt : Graph → (ℕ → ℕ) → Tables → ℕ → Type 0
IsChosenAt g len t v =
    IsChoice g len (at t.distance.items) (at t.least.items) v
    (at t.parent.items v) (at t.up.items v) (at t.least.items v)

-- there is room for each node
pub record HasRoom (nodes : ℕ) (t : Tables) : Type 0 where
  pub order : length t.order.items ≡ nodes
  pub distance : length t.distance.items ≡ nodes
  pub parent : length t.parent.items ≡ nodes
  pub up : length t.up.items ≡ nodes
  pub least : length t.least.items ≡ nodes

-- nothing is settled
pub record IsBlank (nodes : ℕ) (t : Tables) : Type 0 where
  pub room : HasRoom nodes t
  pub count : t.count ≡ 0
  pub none : (v : ℕ) → v < nodes → at t.distance.items v ≡ never

-- what is within the radius is settled, listed and chosen
pub record IsFound (g : Graph) (len : ℕ → ℕ) (base radius : ℕ) (t : Tables) : Type 0 where
  pub room : HasRoom g.nodes t
  pub count_in : t.count ≤ g.nodes
  pub reached : IsReachedNear g len base radius (at t.distance.items)
  pub listed : IsListed g.nodes (at t.distance.items) (at t.order.items) t.count
  pub chosen : (v : ℕ) → v < g.nodes → at t.distance.items v ≢ never → IsChosenAt g len t v

-- the tables of a desk between two searches
pub record IsKept (heap : Entries) (t : Tables) : Type 0 where
  pub places : length heap ≡ length t.distance.items
  pub order : length t.order.items ≡ length t.distance.items
  pub count_in : t.count ≤ length t.order.items
  pub inside : (i : ℕ) → i < t.count → at t.order.items i < length t.distance.items
  pub listed : (v : ℕ) → v < length t.distance.items → at t.distance.items v ≢ never →
      (i : ℕ) × (i < t.count) × (at t.order.items i ≡ v)

-- The state of a search where all edges have one length but those that lead past the radius: the list of settled nodes
-- is a queue. The nodes before a place have passed on; no node of the list is farther than those behind the place by
-- more than the length.
pub record IsQueue (g : Graph) (len : ℕ → ℕ) (size radius : ℕ) (t : Tables) (place : ℕ) : Type 0 where
  pub room : HasRoom g.nodes t
  pub place_in : place ≤ t.count
  pub some : 0 < t.count
  pub at_first : at t.distance.items (at t.order.items 0) ≡ 0
  pub listed : IsListed g.nodes (at t.distance.items) (at t.order.items) t.count
  pub counted : t.count + count_below g.nodes (λ u. at t.distance.items u == never) ≡ g.nodes
  pub span : (i j : ℕ) → i < t.count → place ≤ j → j < t.count →
      at t.distance.items (at t.order.items i) ≤ at t.distance.items (at t.order.items j) + size
  pub steps : (i : ℕ) → i < t.count → at t.distance.items (at t.order.items i) ≤ i * longest
  pub within : (i : ℕ) → i < t.count → at t.distance.items (at t.order.items i) ≤ radius
  pub tight : (i : ℕ) → 0 < i → i < t.count →
      IsReached g len (at t.distance.items) (at t.order.items i) (at t.distance.items (at t.order.items i))
  pub near : (i w e : ℕ) → i < place → w < g.nodes → e < g.edges → joins g (at t.order.items i) w e ≡ true →
      at t.distance.items (at t.order.items i) + len e ≤ radius →
      (at t.distance.items w ≢ never) × (at t.distance.items w ≤ at t.distance.items (at t.order.items i) + len e)
  pub chosen : (i : ℕ) → i < place → IsChosenAt g len t (at t.order.items i)

-- the node at the place has passed on, and its choice is made but not kept
pub record IsLooked (g : Graph) (len : ℕ → ℕ) (size radius : ℕ) (t : Tables) (place p e m : ℕ) : Type 0 where
  pub queue : IsQueue g len size radius t place
  pub here : place < t.count
  pub choice : IsChoice g len (at t.distance.items) (at t.least.items) (at t.order.items place) p e m
  pub near : (w f : ℕ) → w < g.nodes → f < g.edges → joins g (at t.order.items place) w f ≡ true →
      at t.distance.items (at t.order.items place) + len f ≤ radius →
      (at t.distance.items w ≢ never) × (at t.distance.items w ≤ at t.distance.items (at t.order.items place) + len f)

-- the same of the tables of a mesh's links

abbrev pub Chooses : LinkTables → List ℕ → List ℕ → ℕ → Choice → Type 0
Chooses links dist least v choice =
    IsChoice (graph_of links) (weight_of links) (at dist) (at least) v choice.parent choice.up choice.least

abbrev pub Offers : LinkTables → List ℕ → ℕ → ℕ → Entries → Entries → Type 0
Offers links dist v radius old new =
    OffersNear (graph_of links) (weight_of links) (at dist) v (at dist v) radius old new

abbrev pub IsQueueOf : LinkTables → ℕ → ℕ → Tables → ℕ → Type 0
IsQueueOf links size radius t place = IsQueue (graph_of links) (weight_of links) size radius t place

abbrev pub HasLooked : LinkTables → ℕ → ℕ → Tables → ℕ → Choice → Type 0
HasLooked links size radius t place choice =
    IsLooked (graph_of links) (weight_of links) size radius t place choice.parent choice.up choice.least
