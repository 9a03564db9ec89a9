use Rattle.surf_surfaces.proofs.classes.LeastLaws.{left_loops_are_least, covering_bases_are_least}
use Rattle.surf_surfaces.proofs.law_of_least.Goals as goal

pub returns : goal.returns
returns c = record { loops = left_loops_are_least; bases = covering_bases_are_least }
