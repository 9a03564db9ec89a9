use Rattle.surf_slit.proofs.Common.{◌<◌, ◌+◌}
use Rattle.surf_cutter.proofs.Common.{cut_count, is_cut, AreDegrees, IsTakenFrom}
use Rattle.surf_cutter.proofs.Takes.{HasNoOtherLoose}
use Rattle.surf_cutter.proofs.taking.take_from.Given as goal

abbrev pub invariant-loop-degree : goal.invariant-loop-degree
invariant-loop-degree l = record {
  degrees : AreDegrees l.mesh l.cut l.degree;
  vertex : l.leaf < l.mesh.vertices;
  taken : IsTakenFrom l.mesh l.marks l.initial.cut l.cut;
  others : HasNoOtherLoose l.mesh l.marks (l.fn.start + 1) l.leaf l.degree;
}

abbrev pub decreases-loop-degree : goal.decreases-loop-degree
decreases-loop-degree l = cut_count l.mesh (is_cut l.cut)
