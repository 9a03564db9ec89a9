use Rattle.surf_caps.proofs.Heights.{high_edges_exist}
use Rattle.surf_caps.proofs.law_of_heights.Goals as goal

pub returns : goal.returns
returns c = record { high = high_edges_exist }
