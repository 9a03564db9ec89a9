-- What a search that goes no farther than a radius has reached.
use Rattle.std.specs.Prelude.{◌≡◌, ◌≢◌, ℕ, ◌+◌, ◌*◌, ◌<◌, ◌≤◌, true, List, length, Some}
use Rattle.surf_base.specs.Tables.{at}
use Rattle.surf_graphs.specs.Graphs.{Graph, joins}
use Rattle.surf_heap.specs.Entries.{Entries, entry_of}
use Rattle.surf_lengths.specs.Lengths.{longest}
use Rattle.surf_tree.specs.Searches.{far, IsReached}

-- each node with an entry is past the radius
abbrev pub ArePast : ℕ → Entries → Type 0
ArePast radius heap = (w k t : ℕ) → entry_of heap w ≡ Some (k, t) → radius < k

-- the settled nodes are listed, and no others
pub record AreListed (distances settled : List ℕ) : Type 0 where
  pub inside : (i : ℕ) → i < length settled →
      (at settled i < length distances) × (at distances (at settled i) ≢ far)
  pub all : (n : ℕ) → n < length distances → at distances n ≢ far →
      (i : ℕ) × (i < length settled) × (at settled i ≡ n)

-- each settled node has its distance from the base, and no other node is within the radius
pub record IsReachedWithin (g : Graph) (len : ℕ → ℕ) (base radius : ℕ) (dist : ℕ → ℕ) : Type 0 where
  pub at_base : dist base ≡ 0
  pub within : (u : ℕ) → u < g.nodes → dist u ≢ far → dist u ≤ radius
  pub fits : (u : ℕ) → u < g.nodes → dist u ≢ far → dist u + longest ≤ g.nodes * longest
  pub near : (u w e : ℕ) → u < g.nodes → w < g.nodes → e < g.edges → joins g u w e ≡ true → dist u ≢ far →
      dist u + len e ≤ radius → (dist w ≢ far) × (dist w ≤ dist u + len e)
  pub tight : (w : ℕ) → w < g.nodes → w ≢ base → dist w ≢ far → IsReached g len dist w (dist w)
