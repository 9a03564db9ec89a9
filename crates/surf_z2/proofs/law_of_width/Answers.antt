use Rattle.surf_z2.proofs.Width as Width
use Rattle.surf_z2.proofs.law_of_width.Goals as goal

pub returns : goal.returns
returns c = Width.width_law
