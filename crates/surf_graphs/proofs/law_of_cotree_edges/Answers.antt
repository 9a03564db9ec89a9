use Rattle.surf_graphs.proofs.CellLaws.{cotree_parts}
use Rattle.surf_graphs.proofs.law_of_cotree_edges.Goals as goal

pub returns : goal.returns
returns c = cotree_parts
