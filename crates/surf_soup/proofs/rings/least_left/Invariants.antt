use Rattle.surf_soup.proofs.LeftSides.{IsLeftUpto}
use Rattle.surf_soup.proofs.rings.least_left.Given as goal

abbrev pub invariant-loop-s : goal.invariant-loop-s
invariant-loop-s l = IsLeftUpto l.corners l.seen l.s l.none l.least l.side
