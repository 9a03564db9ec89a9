use Rattle.surf_surfaces.proofs.Common.{◌≡◌, ◌≤◌, ◌*◌, map, take, sum}
use Rattle.surf_finding.proofs.basis.total_of.Given as goal

abbrev pub invariant-loop-cycle : goal.invariant-loop-cycle
invariant-loop-cycle l = record {
  sum_is : l.total ≡ sum (map (λ c. c.length) (take l.cycle-index l.cycles));
  bound : l.total ≤ l.cycle-index * 18446744073709551615;
}
