use Rattle.surf_treecheck.proofs.Common.{HoldsBelow, HasDistance}
use Rattle.surf_treecheck.proofs.tree.first_distance.Given as goal

-- all before have the distances by their parents
abbrev pub invariant-loop-v : goal.invariant-loop-v
invariant-loop-v l = HoldsBelow l.v (HasDistance l.mesh l.lengths l.rows)
