use Rattle.std.proofs.Common.{◌≡◌, take}
use Rattle.surf_sheetcheck.specs.Cocycles.{walk_set}
use Rattle.surf_sheetcheck.specs.Tables.{ArePartLabels}
use Rattle.surf_sheetcheck.proofs.labelling.label_part.Given as goal

-- the places before
abbrev pub invariant-loop-place : goal.invariant-loop-place
invariant-loop-place l = record {
  sum : l.sum ≡ walk_set l.case.mesh.now l.case.cert.now (take l.place l.task.part.items);
  labels : ArePartLabels l.case.mesh.now l.case.cert.now l.task.part.items l.place l.labels;
}
