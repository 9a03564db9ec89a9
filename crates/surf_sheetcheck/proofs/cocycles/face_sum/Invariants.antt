use Rattle.std.proofs.Common.{◌≡◌, ◌-◌, take}
use Rattle.surf_surfaces.specs.Mesh.{sides}
use Rattle.surf_surfaces.specs.Surface.{face_at}
use Rattle.surf_sheetcheck.specs.Cocycles.{steps_set}
use Rattle.surf_sheetcheck.proofs.cocycles.face_sum.Given as goal

-- the sides before
abbrev pub invariant-loop-s : goal.invariant-loop-s
invariant-loop-s l = l.sum ≡ steps_set l.case.mesh.now l.case.cert.now (take (l.s - l.start) (sides (face_at l.case.mesh.now l.fn.f)))
