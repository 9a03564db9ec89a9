use Rattle.std.proofs.Common.{◌≤◌, ◌-◌, length}
use Rattle.std.specs.Vec.{vec_capacity}
use Rattle.surf_signatures.proofs.signs.fill_up.Given as goal

abbrev pub invariant-loop-table : goal.invariant-loop-table
invariant-loop-table l = record {
  few : length l.table.items ≤ l.words;
  room : l.words ≤ vec_capacity l.table;
}

abbrev pub decreases-loop-table : goal.decreases-loop-table
decreases-loop-table l = l.words - length l.table.items
