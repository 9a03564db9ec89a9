use Rattle.surf_treecheck.proofs.Common.{any_below, edge_count, side_at, is_side, AreFlags}
use Rattle.surf_treecheck.proofs.marks.flag_sides.Given as goal

-- the flags of the faces before
abbrev pub invariant-loop-f : goal.invariant-loop-f
invariant-loop-f l = AreFlags (edge_count l.mesh)
    (λ e. any_below l.f (λ f. is_side l.mesh e (side_at l.dual f))) l.flags
