use Rattle.std.proofs.Common.{◌≤◌, ◌-◌}
use Rattle.surf_base.specs.Tables.{at}
use Rattle.surf_treecheck.specs.First.{HoldsBelow}
use Rattle.surf_sheetcheck.proofs.walks.first_falling.Given as goal

-- the lengths before don't fall
abbrev pub invariant-loop-place : goal.invariant-loop-place
invariant-loop-place l = HoldsBelow l.place (λ k. at l.sizes (k - 1) ≤ at l.sizes k)
