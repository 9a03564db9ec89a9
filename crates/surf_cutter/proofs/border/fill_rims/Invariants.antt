use Rattle.surf_cutter.specs.Rims.{AreReaches, sides_of}
use Rattle.surf_cutter.proofs.RimTables.{AreRimsTo}
use Rattle.surf_cutter.proofs.border.fill_rims.Given as goal

abbrev pub invariant-loop-side : goal.invariant-loop-side
invariant-loop-side l = record {
  rims : AreRimsTo l.border l.side-items l.side-index (sides_of l.rims);
  reaches : AreReaches l.border l.rims;
}
