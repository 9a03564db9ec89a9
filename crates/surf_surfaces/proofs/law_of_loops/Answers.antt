use Rattle.surf_surfaces.proofs.bases.LoopsAtLaws.{loops_are_least}
use Rattle.surf_surfaces.proofs.law_of_loops.Goals as goal

pub returns : goal.returns
returns c = loops_are_least
