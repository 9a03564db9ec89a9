use Rattle.surf_graphs.proofs.Growth.{grown_tree}
use Rattle.surf_graphs.proofs.law_of_grown_trees.Goals as goal

pub returns : goal.returns
returns c = grown_tree
