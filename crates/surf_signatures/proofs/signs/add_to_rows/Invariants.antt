use Rattle.std.proofs.Common.{◌≡◌, ℕ, cond, ltb, length}
use Rattle.surf_signatures.specs.Tables.{added_where, row_of}
use Rattle.surf_signatures.proofs.signs.add_to_rows.Given as goal

-- the rows before are made anew
abbrev pub invariant-loop-edge : goal.invariant-loop-edge
invariant-loop-edge l = record {
  count : length l.table ≡ length l.initial.table;
  rows : (e : ℕ) → row_of l.words l.table e
      ≡ cond (ltb e l.edge) (added_where l.k l.other (row_of l.words l.initial.table e)) (row_of l.words l.initial.table e);
}
