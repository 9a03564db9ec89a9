use Rattle.surf_z2.specs.Space.{numbers, chains}
use Rattle.surf_z2.proofs.Ranks as Ranks
use Rattle.surf_z2.proofs.law_of_places.Goals as goal

pub returns : goal.returns
returns c = record { numbers = Ranks.places_law numbers; chains = Ranks.places_law chains }
