use Rattle.surf_graphs.proofs.Counting.{left_edges}
use Rattle.surf_graphs.proofs.law_of_left_count.Goals as goal

pub returns : goal.returns
returns c = left_edges
