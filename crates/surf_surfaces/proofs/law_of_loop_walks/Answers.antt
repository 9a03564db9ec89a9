use Rattle.surf_surfaces.proofs.walks.LoopWalkLaws.{loops_are_closed}
use Rattle.surf_surfaces.proofs.law_of_loop_walks.Goals as goal

pub returns : goal.returns
returns c = loops_are_closed
