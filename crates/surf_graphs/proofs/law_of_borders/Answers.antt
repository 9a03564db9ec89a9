use Rattle.surf_graphs.proofs.Border.{border_connected}
use Rattle.surf_graphs.proofs.law_of_borders.Goals as goal

pub returns : goal.returns
returns c = border_connected
