use Rattle.surf_treecheck.proofs.Common.{HoldsBelow, HasParent}
use Rattle.surf_treecheck.proofs.tree.first_parent.Given as goal

-- all before have parents
abbrev pub invariant-loop-v : goal.invariant-loop-v
invariant-loop-v l = HoldsBelow l.v (HasParent l.mesh l.rows)
