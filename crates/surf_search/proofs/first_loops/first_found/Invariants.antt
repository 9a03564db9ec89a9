use Rattle.surf_search.proofs.Common.{◌≡◌, take, IsFirstAmong}
use Rattle.surf_search.proofs.first_loops.first_found.Given as goal

abbrev pub invariant-loop-v : goal.invariant-loop-v
invariant-loop-v l = record {
  same : l.finder ≡ l.fn.finder;
  first : IsFirstAmong l.fn.finder.mesh l.fn.finder.lengths l.fn.finder.signs (take l.v-index l.vertices) l.first;
}
