use Rattle.surf_validity.proofs.BasisLaws.{valid_bases_are_least}
use Rattle.surf_validity.proofs.law_of_valid_bases.Goals as goal

pub returns : goal.returns
returns c = valid_bases_are_least
