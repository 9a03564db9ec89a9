use Rattle.surf_search.proofs.Common.{◌≡◌, ◌<◌, ℕ, length, get_or, Ask, AreNoLess, HasCappedEnd}
use Rattle.surf_search.proofs.caps.raise_all.Given as goal

abbrev pub invariant-loop-ask : goal.invariant-loop-ask
invariant-loop-ask l = record {
  count : length l.caps ≡ length l.fn.caps;
  more : AreNoLess l.fn.caps l.caps;
  capped : (k : ℕ) (a : Ask) → k < l.ask-index → HasCappedEnd l.mesh l.caps (get_or l.asks k a).length (get_or l.asks k a).edge;
}
