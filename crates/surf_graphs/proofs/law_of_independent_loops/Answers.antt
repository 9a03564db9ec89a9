use Rattle.surf_graphs.proofs.Independence.{left_independent}
use Rattle.surf_graphs.proofs.law_of_independent_loops.Goals as goal

pub returns : goal.returns
returns c = left_independent
