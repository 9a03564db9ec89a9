use Rattle.surf_soup.specs.Reach.{Visits}
use Rattle.surf_soup.proofs.reaching.visit.Given as goal

abbrev pub invariant-loop-g : goal.invariant-loop-g
invariant-loop-g l = Visits l.row l.g-index l.fn.seen l.fn.listed.items l.seen l.listed.items
