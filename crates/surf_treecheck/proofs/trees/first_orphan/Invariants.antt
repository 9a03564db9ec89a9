use Rattle.surf_treecheck.proofs.Common.{HoldsBelow, HasParents}
use Rattle.surf_treecheck.proofs.trees.first_orphan.Given as goal

-- all parents in the trees before are ones
abbrev pub invariant-loop-x : goal.invariant-loop-x
invariant-loop-x l = HoldsBelow l.x (HasParents l.mesh l.cert)
