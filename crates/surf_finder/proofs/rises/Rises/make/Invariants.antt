use Rattle.surf_finder.proofs.Rising.{AreStartsTo}
use Rattle.surf_finder.proofs.rises.Rises.make.Given as goal

abbrev pub invariant-loop-e : goal.invariant-loop-e
invariant-loop-e l = AreStartsTo l.mesh l.e l.starts.items
