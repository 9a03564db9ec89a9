use Rattle.surf_surfaces.proofs.bases.BasisLaws.{basis_is_least, basis_is_one, basis_is_kept_base_by_base}
use Rattle.surf_surfaces.proofs.law_of_basis.Goals as goal

pub returns : goal.returns
returns c = record { least = basis_is_least; one = basis_is_one; by_bases = basis_is_kept_base_by_base }
