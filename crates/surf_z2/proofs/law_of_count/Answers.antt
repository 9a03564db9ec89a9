use Rattle.surf_z2.specs.Space.{numbers, chains}
use Rattle.surf_z2.proofs.Span as Span
use Rattle.surf_z2.proofs.law_of_count.Goals as goal

pub returns : goal.returns
returns c = record { numbers = Span.count_law numbers; chains = Span.count_law chains }
