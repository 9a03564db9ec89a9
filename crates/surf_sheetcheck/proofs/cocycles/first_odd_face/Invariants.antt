use Rattle.surf_treecheck.specs.First.{HoldsBelow}
use Rattle.surf_sheetcheck.specs.Valid.{IsEvenFace}
use Rattle.surf_sheetcheck.proofs.cocycles.first_odd_face.Given as goal

-- the faces before are even
abbrev pub invariant-loop-f : goal.invariant-loop-f
invariant-loop-f l = HoldsBelow l.f (IsEvenFace l.case.mesh.now l.case.cert.now)
