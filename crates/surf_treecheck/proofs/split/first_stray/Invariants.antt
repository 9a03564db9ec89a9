use Rattle.surf_treecheck.proofs.Common.{take, IsLeastStray}
use Rattle.surf_treecheck.proofs.split.first_stray.Given as goal

-- the least of the pairs before
abbrev pub invariant-loop-i : goal.invariant-loop-i
invariant-loop-i l = IsLeastStray l.mesh (take l.i l.left) l.least
