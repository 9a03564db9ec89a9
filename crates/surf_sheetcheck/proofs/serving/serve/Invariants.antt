use Rattle.surf_sheetcheck.proofs.TakenLaws.{AreTakenNear}
use Rattle.surf_sheetcheck.proofs.serving.serve.Given as goal

-- the edges at the near vertices before have lost the numbers of the sheet
abbrev pub invariant-loop-i : goal.invariant-loop-i
invariant-loop-i l = AreTakenNear l.case l.task.row.now l.distance l.order l.i l.initial.left l.left
