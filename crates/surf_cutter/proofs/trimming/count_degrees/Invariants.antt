use Rattle.surf_surfaces.specs.Degrees.{AreDegreesTo}
use Rattle.surf_cutter.specs.Trimming.{is_cut}
use Rattle.surf_cutter.proofs.trimming.count_degrees.Given as goal

abbrev pub invariant-loop-e : goal.invariant-loop-e
invariant-loop-e l = AreDegreesTo l.mesh (is_cut l.cut) l.e l.degree
