use Rattle.surf_paired.specs.Paired.{ArePairedRows}
use Rattle.surf_sheetfind.specs.Pairs.{AreRows, classes_of}
use Rattle.surf_sheetfind.proofs.pairing.paired_rows.Given as goal

-- rows that are paired with the classes before
abbrev pub invariant-loop-n : goal.invariant-loop-n
invariant-loop-n l = record {
  rows : AreRows l.count l.rows;
  paired : ArePairedRows (classes_of l.mesh l.signatures.signatures l.cycles) l.rows.sets l.n;
}
