use Rattle.surf_surfaces.proofs.bases.FirstFoundLaws.{first_is_at_least_base}
use Rattle.surf_surfaces.proofs.law_of_first_found.Goals as goal

pub returns : goal.returns
returns c = first_is_at_least_base
