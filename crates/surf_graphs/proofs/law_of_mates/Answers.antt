use Rattle.surf_graphs.proofs.Mates.{mate_rounds, sides_count}
use Rattle.surf_graphs.proofs.law_of_mates.Goals as goal

pub returns : goal.returns
returns c s h ok mate pair = (sides_count s h ok, mate_rounds s h ok mate pair)
