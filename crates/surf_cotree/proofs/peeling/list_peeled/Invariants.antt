use Rattle.surf_cotree.proofs.Common.{dual, cells_of, outside, IsPeeledBy}
use Rattle.surf_cotree.proofs.peeling.list_peeled.Given as goal

abbrev pub invariant-loop-face : goal.invariant-loop-face
invariant-loop-face l = IsPeeledBy (dual (cells_of l.mesh)) (outside l.initial.marks) l.leaves l.count (outside l.marks)
