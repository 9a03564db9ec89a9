use Rattle.surf_firsts.proofs.FirstLoops.{first_loops_are_greedy}
use Rattle.surf_firsts.proofs.NoLater.{loops_depend_on_no_later}
use Rattle.surf_firsts.proofs.law_of_first_loops.Goals as goal

pub returns : goal.returns
returns c = record { no_later = loops_depend_on_no_later; greedy = first_loops_are_greedy }
