use Rattle.surf_surfaces.proofs.LawProofs.{faces_are_listed, edges_have_two_faces, sides_differ, corners_have_two_sides, face_meets_vertices, sizes_are_twice_edges, edges_are_as_many_as_corners}
use Rattle.surf_surfaces.proofs.law_of_faces.Goals as goal

pub returns : goal.returns
returns c = record {
  listed = faces_are_listed;
  two = edges_have_two_faces;
  sides_differ = sides_differ;
  two_sides = corners_have_two_sides;
  meets = face_meets_vertices;
  sizes = sizes_are_twice_edges;
  degrees = edges_are_as_many_as_corners;
}
