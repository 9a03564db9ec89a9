use Rattle.surf_cotree.proofs.Common.{◌≡◌, filter, range_with_len, outside}
use Rattle.surf_cotree.proofs.edges.list_unmarked.Given as goal

abbrev pub invariant-loop-edge : goal.invariant-loop-edge
invariant-loop-edge l = l.left.items ≡ filter (outside l.marks) (range_with_len 0 l.edge)
