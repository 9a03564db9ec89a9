use Rattle.surf_soup.specs.Reach.{unmarked}
use Rattle.surf_soup.proofs.RoundMarks.{IsListedUpto}
use Rattle.surf_soup.proofs.rings.go_round.Given as goal

abbrev pub invariant-loop-seen : goal.invariant-loop-seen
invariant-loop-seen l =
    IsListedUpto l.darts.mesh l.darts.mate l.edge_of l.fn.home l.fn.seen l.side l.head l.corner l.seen
    l.fn.sides.items l.sides.items l.fn.edges.items l.edges.items

abbrev pub decreases-loop-seen : goal.decreases-loop-seen
decreases-loop-seen l = unmarked l.seen
