use Rattle.surf_graphs.proofs.Graphs.{walk_even}
use Rattle.surf_graphs.proofs.law_of_closed_walks.Goals as goal

pub returns : goal.returns
returns c = walk_even
