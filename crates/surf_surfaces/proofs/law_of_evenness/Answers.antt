use Rattle.surf_surfaces.proofs.LawProofs.{closed_walks_are_even, boundaries_are_even}
use Rattle.surf_surfaces.proofs.law_of_evenness.Goals as goal

pub returns : goal.returns
returns c = record { walks = closed_walks_are_even; boundaries = boundaries_are_even }
