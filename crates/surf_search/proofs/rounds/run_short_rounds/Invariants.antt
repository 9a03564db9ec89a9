use Rattle.surf_search.proofs.Common.{◌≡◌, length, surface_of, AreKeptUpTo, in_caps}
use Rattle.surf_search.proofs.rounds.run_short_rounds.Given as goal

abbrev pub invariant-loop-round : goal.invariant-loop-round
invariant-loop-round l = record {
  same : l.finder ≡ l.fn.finder;
  width : l.choice.width ≡ l.fn.choice.width;
  count : length l.reached ≡ length l.fn.reached;
  kept : AreKeptUpTo (surface_of l.plan.surface.now) (in_caps l.reached) l.choice;
}
