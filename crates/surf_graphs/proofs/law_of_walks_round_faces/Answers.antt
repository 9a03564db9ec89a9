use Rattle.surf_graphs.proofs.CellLaws.{faces_closed}
use Rattle.surf_graphs.proofs.law_of_walks_round_faces.Goals as goal

pub returns : goal.returns
returns c = faces_closed
