-- A search where all edges have one length: the list of settled nodes is its queue.
use Rattle.std.specs.Prelude.{◌≡◌, ◌≢◌, ℕ, ◌<◌, ◌≤◌, ◌+◌, ◌*◌, ◌⊎◌, ◌==◌, true, List, length, slice_index, Option}
use Rattle.std.specs.Prelude.{MatchOption}
use Rattle.surf_z2.specs.Parity.{count_below}
use Rattle.surf_graphs.specs.Graphs.{Graph, joins}
use Rattle.surf_lengths.specs.Lengths.{longest}
use Rattle.surf_base.specs.Tables.{at}
use Rattle.surf_tree.specs.Searches.{far, IsReached}

-- all edges have one length
abbrev pub AreEven : List ℕ → ℕ → Type 0
AreEven lengths size = (e : ℕ) → e < length lengths → slice_index lengths e ≡ size

-- there is no edge, or one has another length than the first
abbrev pub AreUneven : List ℕ → Type 0
AreUneven lengths = (length lengths ≡ 0)
    ⊎ ((e : ℕ) × (e < length lengths) × (slice_index lengths e ≢ slice_index lengths 0))

-- the one length of all edges, where they have one
abbrev pub IsEvenness : List ℕ → Option ℕ → Type 0
IsEvenness lengths even = MatchOption even (AreUneven lengths) (AreEven lengths)

-- no edge is longer
abbrev pub AreUpTo : List ℕ → ℕ → Type 0
AreUpTo lengths most = (e : ℕ) → e < length lengths → slice_index lengths e ≤ most

-- The settled nodes are the first of a list, by distance. The nodes before a place have passed on; no listed node is
-- farther than those behind the place by more than the length of the edges.
pub record IsQueue (g : Graph) (len : ℕ → ℕ) (size : ℕ) (dist order : List ℕ) (count place : ℕ) : Type 0 where
  pub order_room : length order ≡ g.nodes
  pub dist_room : length dist ≡ g.nodes
  pub place_in : place ≤ count
  pub some : 0 < count
  pub at_first : at dist (at order 0) ≡ 0
  pub inside : (i : ℕ) → i < count → at order i < g.nodes
  pub settled : (i : ℕ) → i < count → at dist (at order i) ≢ far
  pub all : (v : ℕ) → v < g.nodes → at dist v ≢ far → (i : ℕ) × (i < count) × (at order i ≡ v)
  pub rise : (i j : ℕ) → i < j → j < count → at dist (at order i) ≤ at dist (at order j)
  pub counted : count + count_below g.nodes (λ u. at dist u == far) ≡ g.nodes
  pub span : (i j : ℕ) → i < count → place ≤ j → j < count → at dist (at order i) ≤ at dist (at order j) + size
  pub steps : (i : ℕ) → i < count → at dist (at order i) ≤ i * longest
  pub tight : (i : ℕ) → 0 < i → i < count → IsReached g len (at dist) (at order i) (at dist (at order i))
  pub near : (i w e : ℕ) → i < place → w < g.nodes → e < g.edges → joins g (at order i) w e ≡ true →
      (at dist w ≢ far) × (at dist w ≤ at dist (at order i) + size)
