use Rattle.surf_soup.proofs.RingMarks.{AreRingsListed}
use Rattle.surf_soup.proofs.rings.go_rings.Given as goal

abbrev pub invariant-loop-home : goal.invariant-loop-home
invariant-loop-home l = AreRingsListed l.darts.mesh l.seen l.home-index l.sides.items l.edges.items l.ends.items
