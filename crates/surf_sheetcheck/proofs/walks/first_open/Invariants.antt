use Rattle.surf_treecheck.specs.First.{HoldsBelow}
use Rattle.surf_sheetcheck.specs.Valid.{IsCycleClosed}
use Rattle.surf_sheetcheck.proofs.walks.first_open.Given as goal

-- the cycles before are closed
abbrev pub invariant-loop-place : goal.invariant-loop-place
invariant-loop-place l = HoldsBelow l.place (IsCycleClosed l.mesh l.cert)
