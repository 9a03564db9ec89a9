use Rattle.surf_surfaces.proofs.Common.{◌≡◌, ◌≤◌, ◌*◌, map, take, sum}
use Rattle.surf_finding.proofs.loops.total_of.Given as goal

abbrev pub invariant-loop-head : goal.invariant-loop-head
invariant-loop-head l = record {
  sum_is : l.total ≡ sum (map (λ h. h.length) (take l.head-index l.heads));
  bound : l.total ≤ l.head-index * 18446744073709551615;
}
