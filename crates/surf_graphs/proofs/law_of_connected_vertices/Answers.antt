use Rattle.surf_graphs.proofs.Sides.{sides_connect}
use Rattle.surf_graphs.proofs.law_of_connected_vertices.Goals as goal

pub returns : goal.returns
returns c = sides_connect
