use Rattle.surf_z2.proofs.Below as Below
use Rattle.surf_z2.proofs.law_of_numbers_below.Goals as goal

pub returns : goal.returns
returns c = Below.below_law
