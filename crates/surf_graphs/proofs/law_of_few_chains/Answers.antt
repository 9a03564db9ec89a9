use Rattle.surf_graphs.proofs.Independence.{independent_bound}
use Rattle.surf_graphs.proofs.law_of_few_chains.Goals as goal

pub returns : goal.returns
returns c s d cells ok = independent_bound s d cells ok
