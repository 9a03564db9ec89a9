use Rattle.surf_graphs.proofs.Loops.{loop_closed}
use Rattle.surf_graphs.proofs.law_of_closed_loops.Goals as goal

pub returns : goal.returns
returns c = loop_closed
