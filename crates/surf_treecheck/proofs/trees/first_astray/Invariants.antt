use Rattle.surf_treecheck.proofs.Common.{HoldsBelow, HasDistances}
use Rattle.surf_treecheck.proofs.trees.first_astray.Given as goal

-- all distances in the trees before are those by the parents
abbrev pub invariant-loop-x : goal.invariant-loop-x
invariant-loop-x l = HoldsBelow l.x (HasDistances l.mesh l.lengths l.cert)
