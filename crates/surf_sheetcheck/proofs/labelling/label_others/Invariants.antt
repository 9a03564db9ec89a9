use Rattle.surf_sheetcheck.specs.Tables.{AreLabelsUpTo}
use Rattle.surf_sheetcheck.proofs.labelling.label_others.Given as goal

-- the vertices that are listed before
abbrev pub invariant-loop-place : goal.invariant-loop-place
invariant-loop-place l = AreLabelsUpTo l.case.mesh.now l.case.lengths.now l.case.cert.now l.task.part.items l.task.limit l.distance l.order l.place l.labels
