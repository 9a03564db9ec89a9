use Rattle.surf_sheetcheck.proofs.TakenLaws.{AreTakenFirst}
use Rattle.surf_sheetcheck.proofs.serving.serve_at.Given as goal

-- the edges before have lost the numbers of the sheet
abbrev pub invariant-loop-e : goal.invariant-loop-e
invariant-loop-e l = AreTakenFirst l.case l.task.row.now l.e-items l.e-index l.initial.left l.left
