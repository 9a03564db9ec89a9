use Rattle.surf_finder.proofs.Common.{ℕ, ◌<◌, slice_index, reached_at, CoversAt}
use Rattle.surf_finder.specs.Found.{AreListed}
use Rattle.surf_finder.proofs.told_loops.list_loops.Given as goal

abbrev pub invariant-loop-v : goal.invariant-loop-v
invariant-loop-v l = record {
  listed : AreListed l.reached l.limit l.found.items l.keys;
  all : (i : ℕ) → i < l.v-index → CoversAt l.ties (reached_at l.reached) l.limit (slice_index l.reached.desk.now.settled i) l.found.items;
}
