use Rattle.surf_slit.proofs.Common.{◌≡◌, ◌≤◌, ◌<◌}
use Rattle.surf_cutter.proofs.Common.{cut_count, is_cut, AreDegrees, IsTrimmedFrom}
use Rattle.surf_cutter.proofs.Trims.{HasNoOtherLeaf}
use Rattle.surf_cutter.proofs.trimming.trim_from.Given as goal

abbrev pub invariant-loop-left : goal.invariant-loop-left
invariant-loop-left l = record {
  degrees : AreDegrees l.mesh l.cut l.degree;
  counted : l.left ≡ cut_count l.mesh (is_cut l.cut);
  vertex : l.leaf < l.mesh.vertices;
  from : l.low ≤ l.leaf;
  trimmed : IsTrimmedFrom l.mesh l.initial.cut l.cut;
  above : HasNoOtherLeaf l.mesh l.low l.leaf l.degree l.left;
}

abbrev pub decreases-loop-left : goal.decreases-loop-left
decreases-loop-left l = l.left
