use Rattle.surf_surfaces.proofs.meshes.PillowLaws.{pillow_is_surface, pillow_is_two_sided, pillow_count}
use Rattle.surf_surfaces.proofs.smallest_surface.Goals as goal

pub returns : goal.returns
returns c = record { surface = pillow_is_surface; two_sided = pillow_is_two_sided; count = pillow_count }
