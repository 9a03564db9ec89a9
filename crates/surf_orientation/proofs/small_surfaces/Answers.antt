use Rattle.surf_orientation.proofs.ExampleLaws.{half_cube_is_surface, half_cube_is_one_sided, half_cube_characteristic, five_torus_orientation, five_torus_genus}
use Rattle.surf_orientation.proofs.TorusLaws.{five_torus_is_surface}
use Rattle.surf_orientation.proofs.small_surfaces.Goals as goal

pub returns : goal.returns
returns c = record {
  surface = half_cube_is_surface;
  torus = five_torus_is_surface;
  one_sided = half_cube_is_one_sided;
  characteristic = half_cube_characteristic;
  turning = five_torus_orientation;
  genus = five_torus_genus;
}
