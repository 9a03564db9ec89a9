use Rattle.surf_soup.specs.Vertices.{all_corners}
use Rattle.surf_disc.specs.Links.{AreLinked}
use Rattle.surf_disc.proofs.fans.link_corners.Given as goal

abbrev pub invariant-loop-s : goal.invariant-loop-s
invariant-loop-s l = AreLinked l.next l.prev l.across (all_corners l.corners.soup.now) l.s l.rows
