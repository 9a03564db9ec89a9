use Rattle.surf_treecheck.proofs.Common.{any_below, edge_count, parent_at, leads_up, AreFlags}
use Rattle.surf_treecheck.proofs.marks.flag_parents.Given as goal

-- the flags of the vertices before
abbrev pub invariant-loop-v : goal.invariant-loop-v
invariant-loop-v l = AreFlags (edge_count l.mesh)
    (λ e. any_below l.v (λ v. leads_up l.mesh e v (parent_at l.rows v))) l.flags
