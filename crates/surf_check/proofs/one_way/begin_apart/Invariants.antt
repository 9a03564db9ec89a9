use Rattle.std.proofs.Common.{◌<◌, ℕ}
use Rattle.surf_check.specs.Kinds.{BeginsWithMate}
use Rattle.surf_check.proofs.one_way.begin_apart.Given as goal

abbrev pub invariant-loop-side : goal.invariant-loop-side
invariant-loop-side l = (s : ℕ) → s < l.side → BeginsWithMate l.soup l.mate s → ⊥
