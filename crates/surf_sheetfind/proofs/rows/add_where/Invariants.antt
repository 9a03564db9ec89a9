use Rattle.std.proofs.Common.{◌≡◌}
use Rattle.surf_sheetfind.proofs.Tables.{AreMovedTo}
use Rattle.surf_sheetfind.proofs.rows.add_where.Given as goal

-- the rows before are moved
abbrev pub invariant-loop-row : goal.invariant-loop-row
invariant-loop-row l = record {
  width : l.rows.width ≡ l.initial.rows.width;
  moved : AreMovedTo l.k l.other l.initial.rows.sets l.row l.rows.sets;
}
