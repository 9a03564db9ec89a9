use Rattle.surf_basis.proofs.Common.{tree_of, ◌≡◌, length, is_marked}
use Rattle.surf_basis.proofs.OnCut.{IsClimbing, steps_left}
use Rattle.surf_basis.proofs.cut.mark_way.Given as goal

abbrev pub invariant-loop-marked : goal.invariant-loop-marked
invariant-loop-marked l = record {
  count : length l.marked ≡ length l.fn.marked;
  climbing : IsClimbing (length l.fn.marked) (tree_of l.tree) l.fn.from l.at (is_marked l.fn.marked) (is_marked l.marked);
}

abbrev pub decreases-loop-marked : goal.decreases-loop-marked
decreases-loop-marked l = steps_left (tree_of l.tree) l.marked l.at
