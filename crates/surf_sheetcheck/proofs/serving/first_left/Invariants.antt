use Rattle.std.proofs.Common.{◌≡◌}
use Rattle.surf_base.specs.Tables.{at}
use Rattle.surf_treecheck.specs.First.{HoldsBelow}
use Rattle.surf_sheetcheck.proofs.serving.first_left.Given as goal

-- nothing is left of the edges before
abbrev pub invariant-loop-place : goal.invariant-loop-place
invariant-loop-place l = HoldsBelow l.place (λ j. at l.left.sets j ≡ 0)
