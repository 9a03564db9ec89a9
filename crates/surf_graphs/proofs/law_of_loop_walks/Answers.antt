use Rattle.surf_graphs.proofs.Loops.{loop_runs}
use Rattle.surf_graphs.proofs.law_of_loop_walks.Goals as goal

pub returns : goal.returns
returns c = loop_runs
