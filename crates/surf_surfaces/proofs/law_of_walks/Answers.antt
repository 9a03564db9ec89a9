use Rattle.surf_surfaces.proofs.LawProofs.{vertices_are_joined}
use Rattle.surf_surfaces.proofs.law_of_walks.Goals as goal

pub returns : goal.returns
returns c = vertices_are_joined
