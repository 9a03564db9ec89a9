use Rattle.surf_treecheck.specs.First.{HoldsBelow}
use Rattle.surf_treecheck.proofs.ShortCuts.{HasNoShortCut}
use Rattle.surf_treecheck.proofs.trees.first_slack.Given as goal

-- no edge is a short cut in the trees before
abbrev pub invariant-loop-x : goal.invariant-loop-x
invariant-loop-x l = HoldsBelow l.x (HasNoShortCut l.mesh l.lengths l.cert)
