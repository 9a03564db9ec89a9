use Rattle.surf_surfaces.proofs.classes.ShortSumLaws.{loop_systems_are_least_by_short_sums, bases_are_least_by_short_sums}
use Rattle.surf_surfaces.proofs.law_of_short_sums.Goals as goal

pub returns : goal.returns
returns c = record { loops = loop_systems_are_least_by_short_sums; bases = bases_are_least_by_short_sums }
