use Rattle.surf_cutter.proofs.Numbered.{AreNumberedIn}
use Rattle.surf_cutter.proofs.copies.number_row.Given as goal

abbrev pub invariant-loop-side : goal.invariant-loop-side
invariant-loop-side l = AreNumberedIn l.mesh l.v l.row l.side-index l.labels l.numbers l.origins.items
