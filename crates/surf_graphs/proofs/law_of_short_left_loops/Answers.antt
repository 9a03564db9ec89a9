use Rattle.surf_graphs.proofs.Independence.{loop_spanned}
use Rattle.surf_graphs.proofs.law_of_short_left_loops.Goals as goal

pub returns : goal.returns
returns c = loop_spanned
