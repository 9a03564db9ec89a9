use Rattle.surf_z2.specs.Space.{numbers, chains}
use Rattle.surf_z2.proofs.Ranks as Ranks
use Rattle.surf_z2.proofs.law_of_ranks.Goals as goal

pub returns : goal.returns
returns c = record { numbers = Ranks.rank_law numbers; chains = Ranks.rank_law chains }
