use Rattle.std.proofs.Common.{◌≡◌, ℕ, ◌<◌, length}
use Rattle.surf_base.specs.Tables.{at}
use Rattle.surf_sheetcheck.specs.Cocycles.{set_of, row_at}
use Rattle.surf_sheetcheck.proofs.sets.row_sets.Given as goal

-- the sets of the rows before
abbrev pub invariant-loop-place : goal.invariant-loop-place
invariant-loop-place l = record {
  width : l.sets.width ≡ length l.cert.cycles;
  room : length l.sets.sets ≡ l.count;
  each : (j : ℕ) → j < l.place → at l.sets.sets j ≡ set_of (row_at l.cert j);
}
