use Rattle.surf_surfaces.proofs.bases.LoopsOne.{loops_are_one}
use Rattle.surf_surfaces.proofs.bases.OneChoice.{candidates_are_one, bases_are_one}
use Rattle.surf_surfaces.proofs.law_of_one_choice.Goals as goal

pub returns : goal.returns
returns c = record { loops = loops_are_one; candidates = candidates_are_one; basis = bases_are_one }
