use Rattle.surf_cotree.proofs.Common.{dual, cells_of, outside, IsPeeledTo}
use Rattle.surf_cotree.proofs.peeling.peel.Given as goal

abbrev pub invariant-loop-face : goal.invariant-loop-face
invariant-loop-face l = IsPeeledTo (dual (cells_of l.mesh)) (outside l.initial.marks) (outside l.marks)
