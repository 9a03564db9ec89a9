use Rattle.surf_graphs.proofs.Trees.{empty_inside}
use Rattle.surf_graphs.proofs.law_of_even_chains_in_trees.Goals as goal

pub returns : goal.returns
returns c = empty_inside
