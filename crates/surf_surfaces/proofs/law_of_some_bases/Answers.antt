use Rattle.surf_surfaces.proofs.bases.SomeBasesLaws.{basis_is_kept_among, basis_is_kept_over, basis_is_kept_over_few}
use Rattle.surf_surfaces.proofs.law_of_some_bases.Goals as goal

pub returns : goal.returns
returns c = record { among = basis_is_kept_among; over = basis_is_kept_over; few = basis_is_kept_over_few }
