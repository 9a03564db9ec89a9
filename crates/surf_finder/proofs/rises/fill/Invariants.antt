use Rattle.std.proofs.Common.{◌≡◌, ◌≤◌, ◌-◌, ◌++◌, length, replicate}
use Rattle.surf_finder.proofs.rises.fill.Given as goal

abbrev pub invariant-loop-place : goal.invariant-loop-place
invariant-loop-place l = record {
  from : length l.fn.starts.items ≤ l._place;
  no_farther : l._place - length l.fn.starts.items ≤ l.many - length l.fn.starts.items;
  filled : l.starts.items ≡ l.fn.starts.items ++ replicate (l._place - length l.fn.starts.items) l.number;
}
