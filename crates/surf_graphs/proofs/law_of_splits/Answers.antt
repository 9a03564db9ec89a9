use Rattle.surf_graphs.proofs.Existence.{split_exists}
use Rattle.surf_graphs.proofs.law_of_splits.Goals as goal

pub returns : goal.returns
returns c = split_exists
