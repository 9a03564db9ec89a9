use Rattle.surf_surfaces.proofs.Common.{subst, MatchBool}
use Rattle.surf_check.specs.Descent.{HaveLesserNeighbours}
use Rattle.surf_check.proofs.DescentLaws.{lesser_neighbours_join}
use Rattle.surf_check.proofs.checking.apart_face.Goals as goal

pub returns-then-branch : goal.returns-then-branch
returns-then-branch c =
    let mesh = c.args.soup.now in
    let lesser : HaveLesserNeighbours mesh = subst (λ b. MatchBool b (HaveLesserNeighbours mesh) (HaveLesserNeighbours mesh → ⊥)) c.if-branch.true c.in_ok-have_lesser_neighbours.ensures in
    lesser_neighbours_join mesh c.law_of_soup.ensures.mesh c.requires.fans lesser
