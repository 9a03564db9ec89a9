use Rattle.surf_z2.specs.Space.{numbers, chains}
use Rattle.surf_z2.proofs.Basics as Basics
use Rattle.surf_z2.proofs.law_of_independence.Goals as goal

pub returns : goal.returns
returns c = record { numbers = Basics.independence_law numbers; chains = Basics.independence_law chains }
