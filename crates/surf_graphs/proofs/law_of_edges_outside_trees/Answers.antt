use Rattle.surf_graphs.proofs.CellLaws.{outside_joins}
use Rattle.surf_graphs.proofs.law_of_edges_outside_trees.Goals as goal

pub returns : goal.returns
returns c = outside_joins
