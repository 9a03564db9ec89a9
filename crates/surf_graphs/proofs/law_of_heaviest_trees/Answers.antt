use Rattle.surf_graphs.proofs.Heavy.{heaviest_from_heavy}
use Rattle.surf_graphs.proofs.law_of_heaviest_trees.Goals as goal

pub returns : goal.returns
returns c = heaviest_from_heavy
