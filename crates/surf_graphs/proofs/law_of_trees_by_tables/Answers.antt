use Rattle.surf_graphs.proofs.Growth.{grown_same}
use Rattle.surf_graphs.proofs.law_of_trees_by_tables.Goals as goal

pub returns : goal.returns
returns c = grown_same
