use Rattle.surf_soup.proofs.LeftSides.{found_pinch}
use Rattle.surf_soup.proofs.rings.pinch_by.Goals as goal

pub returns : goal.returns
returns c = found_pinch c.args.darts.now.mesh c.mark_rounds.new.seen c.pinch_left.result c.mark_rounds.ensures
    c.pinch_left.ensures
