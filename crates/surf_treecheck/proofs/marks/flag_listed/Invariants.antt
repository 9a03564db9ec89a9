use Rattle.surf_treecheck.proofs.Common.{take, edge_count, is_listed, AreFlags}
use Rattle.surf_treecheck.proofs.marks.flag_listed.Given as goal

-- the flags of the pairs before
abbrev pub invariant-loop-i : goal.invariant-loop-i
invariant-loop-i l = AreFlags (edge_count l.mesh) (is_listed l.mesh (take l.i l.left)) l.flags
