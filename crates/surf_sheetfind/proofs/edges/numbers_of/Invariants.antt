use Rattle.std.proofs.Common.{◌≡◌}
use Rattle.surf_sheetfind.specs.Listed.{numbers_below}
use Rattle.surf_sheetfind.proofs.edges.numbers_of.Given as goal

-- the numbers before
abbrev pub invariant-loop-k : goal.invariant-loop-k
invariant-loop-k l = l.row.items ≡ numbers_below l.set l.k
