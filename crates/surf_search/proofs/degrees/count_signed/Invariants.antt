use Rattle.surf_surfaces.specs.Degrees.{AreDegreesTo}
use Rattle.surf_finder.specs.Marks.{is_signed}
use Rattle.surf_search.proofs.degrees.count_signed.Given as goal

abbrev pub invariant-loop-number : goal.invariant-loop-number
invariant-loop-number l = AreDegreesTo l.mesh (is_signed l.signatures) l.number l.degrees
