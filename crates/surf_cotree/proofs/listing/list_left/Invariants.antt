use Rattle.surf_cotree.proofs.Common.{◌≡◌, ◌≤◌, vec_capacity, filter, range_with_len, is_unmarked}
use Rattle.surf_cotree.proofs.listing.list_left.Given as goal

abbrev pub invariant-loop-edge : goal.invariant-loop-edge
invariant-loop-edge l = record {
  listed : l.left.items ≡ filter (is_unmarked l.first l.second) (range_with_len 0 l.edge);
  room : vec_capacity l.fn.left ≤ vec_capacity l.left;
}
