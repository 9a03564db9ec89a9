use Rattle.surf_search.proofs.Common.{◌≡◌, length, AreNoLess}
use Rattle.surf_search.proofs.rounds.raise_hubs.Given as goal

abbrev pub invariant-loop-v : goal.invariant-loop-v
invariant-loop-v l = record {
  count : length l.caps ≡ length l.fn.caps;
  more : AreNoLess l.fn.caps l.caps;
}
