use Rattle.surf_treecheck.proofs.Common.{HoldsBelow, AreOne}
use Rattle.surf_treecheck.proofs.split.first_undivided.Given as goal

-- each edge before is in just one
abbrev pub invariant-loop-e : goal.invariant-loop-e
invariant-loop-e l = HoldsBelow l.e (AreOne l.marks.tree.items l.marks.dual.items l.marks.left.items)
