use Rattle.std.proofs.Common.{◌≡◌, ℕ, ◌<◌, ◌^◌, length}
use Rattle.surf_base.specs.Tables.{at}
use Rattle.surf_sheetcheck.specs.Parts.{size_at}
use Rattle.surf_sheetcheck.proofs.walks.walk_sizes.Given as goal

-- the lengths of the cycles before
abbrev pub invariant-loop-place : goal.invariant-loop-place
invariant-loop-place l = record {
  count : length l.sizes.items ≡ l.place;
  each : (k : ℕ) → k < l.place → at l.sizes.items k ≡ size_at l.mesh l.lengths l.cert k;
  small : (k : ℕ) → k < l.place → at l.sizes.items k < 2 ^ 96;
}
