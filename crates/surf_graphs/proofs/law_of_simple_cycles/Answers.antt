use Rattle.surf_graphs.proofs.Cycles.{cycle_runs}
use Rattle.surf_graphs.proofs.law_of_simple_cycles.Goals as goal

pub returns : goal.returns
returns c = cycle_runs
