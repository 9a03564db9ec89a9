use Rattle.surf_soup.proofs.RingMarks.{all_rings}
use Rattle.surf_soup.proofs.rings.judge_rings.Goals as goal

pub returns-in-None : goal.returns-in-None
returns-in-None c = all_rings c.args.darts.now.mesh c.go_rings.new.seen c.args.darts.now.mesh.vertices
    c.in_ok-rings.rings.0 c.in_ok-rings.rings.1 c.in_ok-rings.ensures.rings c.in-None.ensures
