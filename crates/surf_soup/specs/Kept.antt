-- What a soup keeps.
use Rattle.std.specs.Prelude.{◌<◌, ◌^◌}
use Rattle.surf_surfaces.specs.Mesh.{Mesh, IsMesh}
use Rattle.surf_surfaces.specs.SideNumber.{side_count}

-- what a soup keeps
pub record IsSoup (mesh : Mesh) : Type 0 where
  pub is_mesh : IsMesh mesh
  pub few : side_count mesh < 2 ^ 30
