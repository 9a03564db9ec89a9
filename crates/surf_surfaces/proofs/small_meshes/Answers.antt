use Rattle.std.proofs.Common.{refl}
use Rattle.surf_surfaces.proofs.small_meshes.Goals as goal

pub returns : goal.returns
returns c = record {
  tetrahedron_edges = refl;
  tetrahedron_faces = refl;
  tetrahedron_characteristic = refl;
  pillow_edges = refl;
  pillow_faces = refl;
  pillow_characteristic = refl;
  torus_edges = refl;
  torus_faces = refl;
  torus_characteristic = refl;
  torus_walk = refl;
  torus_order = refl;
  torus_count = refl;
  torus_parity = refl;
  plane_edges = refl;
  plane_faces = refl;
  plane_characteristic = refl;
}
