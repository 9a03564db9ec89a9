-- What a cover desk keeps between its searches.
use Rattle.std.specs.Prelude.{◌≡◌, ℕ, ◌*◌, ◌≤◌, length, vec_capacity}
use Rattle.surf_base.specs.declared.limits.TheConstants.{MAX_LARGE_COVER_NODES}
use Rattle.surf_heap.specs.Entries.{Entries}
use Rattle.surf_cover.specs.Within.{AreListed}
use Rattle.surf_cover.specs.declared.search.Reached.{Reached}

-- there is room for each vertex with each set, and what is settled is listed
pub record IsKept (heap : Entries) (reached : Reached) (vertices sets : ℕ) : Type 0 where
  pub places : length heap ≡ length reached.distance.items
  pub nodes : length reached.distance.items ≡ vertices * sets
  pub few : vertices * sets ≤ MAX_LARGE_COVER_NODES
  pub room : vertices * sets ≤ vec_capacity reached.settled
  pub listed : AreListed reached.distance.items reached.settled.items
