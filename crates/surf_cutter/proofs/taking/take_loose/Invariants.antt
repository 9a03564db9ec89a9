use Rattle.surf_cutter.specs.Trimming.{AreDegrees, IsTakenFrom, HasNoLooseBelow}
use Rattle.surf_cutter.proofs.taking.take_loose.Given as goal

abbrev pub invariant-loop-start : goal.invariant-loop-start
invariant-loop-start l = record {
  degrees : AreDegrees l.mesh l.cut l.degree;
  taken : IsTakenFrom l.mesh l.marks l.initial.cut l.cut;
  below : HasNoLooseBelow l.mesh l.marks l.start l.degree;
}
