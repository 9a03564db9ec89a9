use Rattle.surf_graphs.proofs.Heavy.{grow_heavy}
use Rattle.surf_graphs.proofs.law_of_growing_heavy_trees.Goals as goal

pub returns : goal.returns
returns c = grow_heavy
