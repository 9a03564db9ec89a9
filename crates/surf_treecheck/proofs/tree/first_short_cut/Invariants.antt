use Rattle.surf_treecheck.proofs.Common.{IsNoShortCut, HoldsBelow}
use Rattle.surf_treecheck.proofs.tree.first_short_cut.Given as goal

-- no edge before is a short cut
abbrev pub invariant-loop-e : goal.invariant-loop-e
invariant-loop-e l = HoldsBelow l.e (IsNoShortCut l.mesh l.lengths l.rows)
