use Rattle.surf_validity.proofs.PlaceLaws.{valid_loops_are_least_in_order, valid_bases_are_least_in_order}
use Rattle.surf_validity.proofs.law_of_valid_places.Goals as goal

pub returns : goal.returns
returns c = record { loops = valid_loops_are_least_in_order; bases = valid_bases_are_least_in_order }
