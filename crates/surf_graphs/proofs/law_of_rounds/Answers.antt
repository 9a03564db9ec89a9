use Rattle.std.proofs.Common.{◌+◌}
use Rattle.surf_graphs.proofs.Rounds.{par_half, rounds_even}
use Rattle.surf_graphs.proofs.law_of_rounds.Goals as goal

pub returns : goal.returns
returns x n p pb q qb r rb a b c hp hq hr ra rb' rc same =
    par_half (a + b + c + n) (rounds_even n p pb q qb r rb a b c hp hq hr ra rb' rc same)
