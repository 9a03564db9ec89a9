use Rattle.std.proofs.Common.{◌≤◌}
use Rattle.surf_cotree.proofs.peeling.count_bare.Given as goal

abbrev pub invariant-loop-s : goal.invariant-loop-s
invariant-loop-s l = l.start ≤ l.s
