use Rattle.std.proofs.Common.{length, ◌-◌}
use Rattle.surf_soup.proofs.ReachSteps.{Reaches}
use Rattle.surf_soup.proofs.reaching.walk.Given as goal

abbrev pub invariant-loop-k : goal.invariant-loop-k
invariant-loop-k l = Reaches l.rows l.from l.k l.seen l.listed.items

abbrev pub decreases-loop-k : goal.decreases-loop-k
decreases-loop-k l = length l.rows - l.k
