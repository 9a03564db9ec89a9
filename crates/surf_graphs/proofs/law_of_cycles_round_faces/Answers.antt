use Rattle.surf_graphs.proofs.Cycles.{faces_simple}
use Rattle.surf_graphs.proofs.law_of_cycles_round_faces.Goals as goal

pub returns : goal.returns
returns c = faces_simple
