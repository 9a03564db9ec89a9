use Rattle.surf_shown.proofs.PastLoops.{ArePastBelow}
use Rattle.surf_shown.proofs.past.are_past_needs.Given as goal

abbrev pub invariant-loop-signed : goal.invariant-loop-signed
invariant-loop-signed l = ArePastBelow l.claim.loops.now l.margin l.from l.to l.found l.signed-index
