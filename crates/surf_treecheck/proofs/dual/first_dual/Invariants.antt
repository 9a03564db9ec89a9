use Rattle.surf_treecheck.proofs.Common.{HoldsBelow, HasDual}
use Rattle.surf_treecheck.proofs.dual.first_dual.Given as goal

-- all rows before are those of a tree of the faces
abbrev pub invariant-loop-f : goal.invariant-loop-f
invariant-loop-f l = HoldsBelow l.f (HasDual l.mesh l.dual)
