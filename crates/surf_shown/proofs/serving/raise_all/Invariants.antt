use Rattle.surf_shown.proofs.ServedLaws.{AreRaised}
use Rattle.surf_shown.proofs.serving.raise_all.Given as goal

abbrev pub invariant-loop-v : goal.invariant-loop-v
invariant-loop-v l = AreRaised l.vertices l.end l.v-index l.fn.ends l.ends
