use Rattle.surf_class.proofs.Common.{HoldsBelow, AgreesAt}
use Rattle.surf_class.proofs.check.first_differing.Given as goal

-- the edges before agree
abbrev pub invariant-loop-e : goal.invariant-loop-e
invariant-loop-e l = HoldsBelow l.e (AgreesAt l.flagged.mesh.now l.faces l.flagged.flags.now)
