use Rattle.std.proofs.Common.{List, ap, length, arith}
use Rattle.surf_rows.proofs.Cuts.{length-cut}
use Rattle.surf_rows.proofs.paired.PairedRows.second.Goals as goal

pub row_in-requires-clause-inside : goal.row_in-requires-clause-inside
row_in-requires-clause-inside g c =
    omega (
      arith,
      c.requires,
      c.deref-2.ensures.len,
      length-cut 0 c.self.inside.ends.items c.self.inside.second.items,
      ap (λ rows. length rows.1) c.self.view_is,
    )
