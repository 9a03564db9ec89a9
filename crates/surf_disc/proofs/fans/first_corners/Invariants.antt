use Rattle.surf_disc.specs.Links.{AreFirsts}
use Rattle.surf_disc.proofs.fans.first_corners.Given as goal

abbrev pub invariant-loop-v : goal.invariant-loop-v
invariant-loop-v l = AreFirsts l.at_vertex l.v l.firsts.items
