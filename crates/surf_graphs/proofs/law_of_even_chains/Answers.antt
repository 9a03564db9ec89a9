use Rattle.surf_graphs.proofs.Trees.{sum_of_loops}
use Rattle.surf_graphs.proofs.law_of_even_chains.Goals as goal

pub returns : goal.returns
returns c = sum_of_loops
