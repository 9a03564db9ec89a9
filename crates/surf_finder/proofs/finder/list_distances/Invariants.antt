use Rattle.std.proofs.Common.{◌≡◌, map, take, slice_index}
use Rattle.surf_finder.proofs.finder.list_distances.Given as goal

abbrev pub invariant-loop-v : goal.invariant-loop-v
invariant-loop-v l = l.list.items ≡ map (slice_index l.desk.distances) (take l.v-index l.desk.settled)
