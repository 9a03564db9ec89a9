use Rattle.surf_soup.proofs.RingMarks.{AreFansMarked}
use Rattle.surf_soup.proofs.rings.mark_rounds.Given as goal

abbrev pub invariant-loop-home : goal.invariant-loop-home
invariant-loop-home l = AreFansMarked l.darts.mesh l.seen l.home-index
