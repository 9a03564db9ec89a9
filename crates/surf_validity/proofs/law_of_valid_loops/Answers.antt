use Rattle.surf_validity.proofs.LoopLaws.{valid_loops_are_least}
use Rattle.surf_validity.proofs.law_of_valid_loops.Goals as goal

pub returns : goal.returns
returns c = valid_loops_are_least
