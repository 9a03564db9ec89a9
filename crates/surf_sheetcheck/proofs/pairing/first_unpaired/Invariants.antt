use Rattle.surf_treecheck.specs.First.{HoldsBelow}
use Rattle.surf_sheetcheck.specs.Valid.{IsPaired}
use Rattle.surf_sheetcheck.proofs.pairing.first_unpaired.Given as goal

-- the cycles before are paired
abbrev pub invariant-loop-place : goal.invariant-loop-place
invariant-loop-place l = HoldsBelow l.place (IsPaired l.case.mesh.now l.case.cert.now)
