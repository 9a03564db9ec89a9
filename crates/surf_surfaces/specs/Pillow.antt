-- The smallest surface: two triangles with the same corners, run in opposite ways.
use Rattle.std.specs.Prelude.{[], ◌∷◌}
use Rattle.surf_surfaces.specs.Mesh.{Mesh}

-- faces 0 1 2 and 0 2 1
abbrev pub pillow : Mesh
pillow = record { vertices = 3; faces = (0 ∷ 1 ∷ 2 ∷ []) ∷ (0 ∷ 2 ∷ 1 ∷ []) ∷ [] }
