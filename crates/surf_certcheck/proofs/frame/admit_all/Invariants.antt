use Rattle.surf_treecheck.proofs.Common.{◌≡◌, length, edge_count, HoldsBelow}
use Rattle.surf_certcheck.proofs.Common.{IsIndependentAt, IsFrameOf}
use Rattle.surf_certcheck.proofs.frame.admit_all.Given as goal

-- each cycle before has a place
abbrev pub invariant-loop-place : goal.invariant-loop-place
invariant-loop-place l = record {
  count : length l.frame.signs.sets ≡ edge_count l.case.mesh.now;
  width : l.frame.signs.width ≡ l.initial.frame.signs.width;
  before : HoldsBelow l.place (IsIndependentAt l.case.mesh.now l.case.cert.now);
  frame : IsFrameOf l.case.mesh.now l.case.lengths.now l.case.cert.now l.place l.frame.signs l.frame.weights.items;
}
