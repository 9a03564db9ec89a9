use Rattle.surf_surfaces.proofs.Common.{ℕ, ◌<◌}
use Rattle.surf_shown.specs.Shown.{IsServedEdge}
use Rattle.surf_shown.proofs.labels.are_served.Given as goal

abbrev pub invariant-loop-e : goal.invariant-loop-e
invariant-loop-e l = (k : ℕ) → k < l.e → IsServedEdge l.claim l.labels l.from l.to l.ends k
