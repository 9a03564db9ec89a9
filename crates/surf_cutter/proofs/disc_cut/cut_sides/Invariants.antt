use Rattle.surf_cutter.specs.Boundary.{AreCutSides}
use Rattle.surf_cutter.proofs.disc_cut.cut_sides.Given as goal

abbrev pub invariant-loop-s : goal.invariant-loop-s
invariant-loop-s l = AreCutSides l.mesh l.cut l.s l.sides.items
