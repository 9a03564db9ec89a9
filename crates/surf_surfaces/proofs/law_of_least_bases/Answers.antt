use Rattle.surf_surfaces.proofs.walks.OnTheWayLaws.{least_tables_are_least}
use Rattle.surf_surfaces.proofs.law_of_least_bases.Goals as goal

pub returns : goal.returns
returns c = least_tables_are_least
