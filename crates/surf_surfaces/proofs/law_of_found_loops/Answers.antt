use Rattle.surf_surfaces.proofs.bases.FoundLaws.{loops_grow_enough, enough_loops_exist}
use Rattle.surf_surfaces.proofs.law_of_found_loops.Goals as goal

pub returns : goal.returns
returns c = record { grow = loops_grow_enough; exist = enough_loops_exist }
