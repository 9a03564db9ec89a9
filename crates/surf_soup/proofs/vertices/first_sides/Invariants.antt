use Rattle.surf_soup.specs.First.{AreFirstFrom}
use Rattle.surf_soup.proofs.vertices.first_sides.Given as goal

abbrev pub invariant-loop-s : goal.invariant-loop-s
invariant-loop-s l = AreFirstFrom l.soup l.s l.first.items
