use Rattle.surf_graphs.proofs.Counting.{tree_edges}
use Rattle.surf_graphs.proofs.law_of_tree_edges.Goals as goal

pub returns : goal.returns
returns c = tree_edges
