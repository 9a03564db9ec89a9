-- How many edges a surface has.
use Rattle.surf_surfaces.proofs.Common.{◌≡◌, ◌/◌, arith, Mesh, edge_count, IsSurface, side_count}
use Rattle.surf_surfaces.proofs.meshes.CountLaws.{sizes_twice}

-- each edge is two sides
pub half_the_sides : (mesh : Mesh) → IsSurface mesh → side_count mesh / 2 ≡ edge_count mesh
half_the_sides mesh surface = let twice = sizes_twice mesh surface in omega (arith, twice)
