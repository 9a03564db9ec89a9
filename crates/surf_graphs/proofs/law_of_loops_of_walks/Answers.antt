use Rattle.surf_graphs.proofs.Lengths.{closed_bound}
use Rattle.surf_graphs.proofs.law_of_loops_of_walks.Goals as goal

pub returns : goal.returns
returns c = closed_bound
