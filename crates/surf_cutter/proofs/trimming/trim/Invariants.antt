use Rattle.surf_slit.proofs.Common.{◌≡◌}
use Rattle.surf_cutter.proofs.Common.{cut_count, is_cut, AreDegrees, IsTrimmedFrom, HasNoLeafFrom}
use Rattle.surf_cutter.proofs.trimming.trim.Given as goal

abbrev pub invariant-loop-low : goal.invariant-loop-low
invariant-loop-low l = record {
  degrees : AreDegrees l.mesh l.cut l.degree;
  counted : l.left ≡ cut_count l.mesh (is_cut l.cut);
  trimmed : IsTrimmedFrom l.mesh l.initial.cut l.cut;
  above : HasNoLeafFrom l.mesh l.low l.degree l.left;
}
