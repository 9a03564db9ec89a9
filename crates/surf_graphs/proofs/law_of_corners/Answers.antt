use Rattle.surf_graphs.proofs.Sides.{sides_even}
use Rattle.surf_graphs.proofs.law_of_corners.Goals as goal

pub returns : goal.returns
returns c = sides_even
