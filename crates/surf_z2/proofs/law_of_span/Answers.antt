use Rattle.surf_z2.specs.Space.{numbers, chains}
use Rattle.surf_z2.proofs.Basics as Basics
use Rattle.surf_z2.proofs.law_of_span.Goals as goal

pub returns : goal.returns
returns c = record { numbers = Basics.span_law numbers; chains = Basics.span_law chains }
