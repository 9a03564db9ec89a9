use Rattle.std.proofs.Common.{◌≡◌, [], replicate}
use Rattle.surf_finder.proofs.walks.no_walks.Given as goal

abbrev pub invariant-loop : goal.invariant-loop
invariant-loop l = l.walks.items ≡ replicate l.counter []
