use Rattle.std.proofs.Common.{◌≡◌, ℕ, ◌<◌, ◌^◌, length}
use Rattle.surf_base.specs.Tables.{at}
use Rattle.surf_sheetfind.proofs.rows.units.Given as goal

-- the rows before
abbrev pub invariant-loop-k : goal.invariant-loop-k
invariant-loop-k l = record {
  width : l.rows.width ≡ l.count;
  room : length l.rows.sets ≡ l.count;
  each : (j : ℕ) → j < l.k → at l.rows.sets j ≡ 2 ^ j;
}
