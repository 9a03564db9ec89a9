use Rattle.surf_surfaces.proofs.bases.FirstCycleLaws.{first_is_shortest, candidates_below_two, simple_cycles_separate}
use Rattle.surf_surfaces.proofs.law_of_first_cycle.Goals as goal

pub returns : goal.returns
returns c = record { first = first_is_shortest; below_two = candidates_below_two; separate = simple_cycles_separate }
