use Rattle.surf_surfaces.proofs.meshes.OrientationLaws.{one_sided_chains_exclude_orientations}
use Rattle.surf_surfaces.proofs.law_of_orientations.Goals as goal

pub returns : goal.returns
returns c = one_sided_chains_exclude_orientations
