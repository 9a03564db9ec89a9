use Rattle.surf_treecheck.specs.First.{HoldsBelow}
use Rattle.surf_sheetcheck.specs.Valid.{Holds}
use Rattle.surf_sheetcheck.specs.Tables.{IsFresh}
use Rattle.surf_sheetcheck.specs.Serving.{AreLefts, IsLeft}
use Rattle.surf_sheetcheck.proofs.sheets.first_short.Given as goal

-- the sheets before hold
abbrev pub invariant-loop-place : goal.invariant-loop-place
invariant-loop-place l = record {
  fresh : IsFresh l.case.mesh.now l.desk.distance.items l.desk.labels l.desk.heap l.desk.order.items;
  lefts : AreLefts l.case l.left;
  left : IsLeft l.case l.place l.left;
  holds : HoldsBelow l.place (Holds l.case.mesh.now l.case.lengths.now l.case.cert.now);
}
