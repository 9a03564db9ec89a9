use Rattle.surf_graphs.proofs.Independence.{left_least}
use Rattle.surf_graphs.proofs.law_of_least_loops.Goals as goal

pub returns : goal.returns
returns c s len d cells ok = left_least s len d cells ok
