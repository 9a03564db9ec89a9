use Rattle.surf_graphs.proofs.Ways.{ways_go_by_parents}
use Rattle.surf_graphs.proofs.law_of_ways.Goals as goal

pub returns : goal.returns
returns c = ways_go_by_parents
