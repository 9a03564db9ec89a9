use Rattle.std.proofs.Common.{◌≡◌, ℕ, ◌≤◌, ◌<◌, false}
use Rattle.surf_z2.specs.Sieve.{has}
use Rattle.surf_sheetfind.proofs.images.first_from.Given as goal

-- the numbers before aren't there
abbrev pub invariant-loop-k : goal.invariant-loop-k
invariant-loop-k l = (j : ℕ) → l.from ≤ j → j < l.k → has l.set j ≡ false
