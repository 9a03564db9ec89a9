use Rattle.surf_search.proofs.Common.{◌≡◌, ◌<◌, ◌≤◌, ℕ, length, get_or, surface_of, AreKeptUpTo, AreNoLess, IsBarring, cap_at, in_round}
use Rattle.surf_search.proofs.round.search_each.Given as goal

abbrev pub invariant-loop-v : goal.invariant-loop-v
invariant-loop-v l = record {
  surface : l.round.surface ≡ l.fn.round.surface;
  least : l.round.least ≡ l.fn.round.least;
  width : l.choice.width ≡ l.fn.choice.width;
  count : length l.reached ≡ length l.fn.reached;
  more : AreNoLess l.fn.reached l.reached;
  barring : IsBarring (surface_of l.fn.round.surface.now) l.finder l.round.marks.items;
  each : (k d : ℕ) → k < l.v-index → cap_at l.caps (get_or l.vertices k d) ≤ cap_at l.reached (get_or l.vertices k d);
  kept : (bound : ℕ) → ((k d : ℕ) → k < l.v-index → bound ≤ cap_at l.caps (get_or l.vertices k d)) →
      AreKeptUpTo (surface_of l.fn.round.surface.now) (in_round l.reached l.round.marks.items bound) l.choice;
}
