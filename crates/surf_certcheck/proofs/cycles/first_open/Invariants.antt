use Rattle.surf_treecheck.specs.First.{HoldsBelow}
use Rattle.surf_certcheck.specs.BasisFaults.{IsCycleClosed}
use Rattle.surf_certcheck.proofs.cycles.first_open.Given as goal

-- the cycles before are closed
abbrev pub invariant-loop-place : goal.invariant-loop-place
invariant-loop-place l = HoldsBelow l.place (IsCycleClosed l.mesh l.cert)
