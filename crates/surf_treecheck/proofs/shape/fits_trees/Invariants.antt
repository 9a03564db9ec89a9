use Rattle.surf_treecheck.proofs.Common.{HoldsBelow, tree_at, HasTreeRows}
use Rattle.surf_treecheck.proofs.shape.fits_trees.Given as goal

-- the trees before have their rows
abbrev pub invariant-loop-x : goal.invariant-loop-x
invariant-loop-x l = HoldsBelow l.x (λ x. HasTreeRows l.mesh (tree_at l.cert x))
