use Rattle.surf_search.proofs.Common.{◌≡◌, StaysEnough}
use Rattle.surf_search.proofs.probes.probe.Given as goal

abbrev pub invariant-loop-step : goal.invariant-loop-step
invariant-loop-step l = record {
  same : l.finder ≡ l.fn.finder;
  width : l.choice.width ≡ l.fn.choice.width;
  kept : StaysEnough l.fn.finder l.fn.choice l.choice;
}
