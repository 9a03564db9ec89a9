use Rattle.surf_surfaces.proofs.meshes.SideLaws.{sides_are_by_place, sides_are_placed, corners_have_neighbours, sides_have_mates}
use Rattle.surf_surfaces.proofs.law_of_sides.Goals as goal

pub returns : goal.returns
returns c = record {
  by_place = sides_are_by_place;
  placed = sides_are_placed;
  neighbours = corners_have_neighbours;
  mates = sides_have_mates;
}
