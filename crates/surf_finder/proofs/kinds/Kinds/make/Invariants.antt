use Rattle.surf_finder.proofs.Common.{signs_of}
use Rattle.surf_finder.proofs.Kinded.{AreKindsTo}
use Rattle.surf_finder.proofs.kinds.Kinds.make.Given as goal

abbrev pub invariant-loop-e : goal.invariant-loop-e
invariant-loop-e l = AreKindsTo (signs_of l.cotree) l.e l.of.items l.list
