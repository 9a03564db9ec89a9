use Rattle.surf_graphs.proofs.Splitting.{simple_or_two}
use Rattle.surf_graphs.proofs.law_of_simple_parts.Goals as goal

pub returns : goal.returns
returns c = simple_or_two
