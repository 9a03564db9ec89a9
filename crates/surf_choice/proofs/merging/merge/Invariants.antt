use Rattle.surf_choice.proofs.Common.{◌≡◌, ◌≤◌, ◌+◌, ◌++◌, length, vec_len, vec_capacity, signed_earlier}
use Rattle.surf_z2.specs.Order.{merge}
use Rattle.surf_choice.proofs.merging.merge.Given as goal

-- what is listed, with what is still to come, is all
abbrev pub invariant-loop-left : goal.invariant-loop-left
invariant-loop-left l = record {
  listed : l.merged.items ++ merge signed_earlier l.left l.right ≡ merge signed_earlier l.first l.second;
  count : vec_len l.merged + (length l.left + length l.right) ≡ length l.first + length l.second;
  room : vec_capacity l.fn.merged ≤ vec_capacity l.merged;
}

abbrev pub decreases-loop-left : goal.decreases-loop-left
decreases-loop-left l = length l.left + length l.right
