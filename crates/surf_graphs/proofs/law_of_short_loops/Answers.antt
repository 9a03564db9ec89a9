use Rattle.surf_graphs.proofs.Splitting.{nonnull_loop}
use Rattle.surf_graphs.proofs.law_of_short_loops.Goals as goal

pub returns : goal.returns
returns c = nonnull_loop
