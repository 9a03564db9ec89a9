use Rattle.std.proofs.Common.{◌^◌, ◌<◌, ◌≡◌, ℕ, ◌&&◌, not}
use Rattle.surf_z2.specs.Sieve.{has}
use Rattle.surf_sheetcheck.specs.Tables.{is_within}
use Rattle.surf_sheetcheck.proofs.sets.clear_within.Given as goal

-- the numbers before are taken out
abbrev pub invariant-loop-i : goal.invariant-loop-i
invariant-loop-i l = record {
  cleared : (j : ℕ) → has l.set j ≡ (has l.initial.set j && not (is_within l.from l.i j));
  small : (n : ℕ) → l.initial.set < 2 ^ n → l.set < 2 ^ n;
}
