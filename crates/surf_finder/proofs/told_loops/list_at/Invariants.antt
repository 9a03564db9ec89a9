use Rattle.surf_finder.proofs.Common.{◌≤◌, slice_index}
use Rattle.surf_finder.specs.Found.{AreListed, reached_at}
use Rattle.surf_finder.proofs.Told.{IsListedTo}
use Rattle.surf_finder.proofs.told_loops.list_at.Given as goal

abbrev pub invariant-loop-e : goal.invariant-loop-e
invariant-loop-e l = record {
  from : slice_index l.reached.rises.now l.fn.v ≤ l.e;
  listed : AreListed l.reached l.limit l.found.items l.keys;
  to : IsListedTo l.ties (reached_at l.reached) l.limit (slice_index l.reached.rises.now l.fn.v) l.fn.found.items l.found.items l.e;
}
