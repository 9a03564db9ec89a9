use Rattle.surf_soup.specs.Reach.{unmarked}
use Rattle.surf_soup.proofs.RoundMarks.{IsMarkedUpto}
use Rattle.surf_soup.proofs.rings.mark_round.Given as goal

abbrev pub invariant-loop-seen : goal.invariant-loop-seen
invariant-loop-seen l =
    IsMarkedUpto l.darts.mesh l.darts.mate l.fn.home l.fn.seen l.side l.head l.at l.seen

abbrev pub decreases-loop-seen : goal.decreases-loop-seen
decreases-loop-seen l = unmarked l.seen
