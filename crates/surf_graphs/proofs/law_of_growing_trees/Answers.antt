use Rattle.surf_graphs.proofs.Growth.{grow_one}
use Rattle.surf_graphs.proofs.law_of_growing_trees.Goals as goal

pub returns : goal.returns
returns c = grow_one
