use Rattle.std.proofs.Common.{◌≡◌, ℕ, ◌≤◌, ◌<◌, ◌+◌, false}
use Rattle.surf_z2.specs.Sieve.{has}
use Rattle.surf_sheetcheck.proofs.sets.last_in.Given as goal

-- the numbers that were looked at, from the last one back, aren't there
abbrev pub invariant-loop-k : goal.invariant-loop-k
invariant-loop-k l = (j : ℕ) → l.to ≤ j + l.k → j < l.to → has l.set j ≡ false
