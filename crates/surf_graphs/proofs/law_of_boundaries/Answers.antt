use Rattle.surf_graphs.proofs.CellLaws.{boundary_even}
use Rattle.surf_graphs.proofs.law_of_boundaries.Goals as goal

pub returns : goal.returns
returns c = boundary_even
