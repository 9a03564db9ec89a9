use Rattle.surf_graphs.proofs.Rounds.{left_even}
use Rattle.surf_graphs.proofs.law_of_left_edges.Goals as goal

pub returns : goal.returns
returns c = left_even
