use Rattle.surf_graphs.proofs.Distances.{ranks_least}
use Rattle.surf_graphs.proofs.law_of_distances.Goals as goal

pub returns : goal.returns
returns c = ranks_least
