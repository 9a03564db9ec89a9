use Rattle.surf_graphs.proofs.Independence.{covering_least}
use Rattle.surf_graphs.proofs.law_of_covering_cycles.Goals as goal

pub returns : goal.returns
returns c s len d cells ok = covering_least s len d cells ok
