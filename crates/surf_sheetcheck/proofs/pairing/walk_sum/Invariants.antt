use Rattle.std.proofs.Common.{◌≡◌, take}
use Rattle.surf_surfaces.specs.Mesh.{steps}
use Rattle.surf_sheetcheck.specs.Cocycles.{steps_set}
use Rattle.surf_sheetcheck.proofs.pairing.walk_sum.Given as goal

-- the steps before
abbrev pub invariant-loop-i : goal.invariant-loop-i
invariant-loop-i l = l.sum ≡ steps_set l.case.mesh.now l.case.cert.now (take l.i (steps l.walk))
