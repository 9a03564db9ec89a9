use Rattle.surf_graphs.proofs.Cycles.{null_separates, separates_null}
use Rattle.surf_graphs.proofs.law_of_null_cycles.Goals as goal

pub returns : goal.returns
returns c s ok a w cycle = (null_separates s ok a w cycle, separates_null s ok a w cycle)
