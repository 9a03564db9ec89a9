-- A small one-sided surface and a small torus.
use Rattle.std.specs.Prelude.{[], ◌∷◌, List}
use Rattle.surf_surfaces.specs.Mesh.{Mesh}
use Rattle.surf_surfaces.specs.Turning.{Link}

-- three squares, each through all of four vertices: a cube whose opposite points are one
abbrev pub half_cube : Mesh
half_cube = record {
  vertices = 4;
  faces = (0 ∷ 1 ∷ 2 ∷ 3 ∷ []) ∷ (0 ∷ 1 ∷ 3 ∷ 2 ∷ []) ∷ (0 ∷ 2 ∷ 1 ∷ 3 ∷ []) ∷ [];
}

-- over two edges there and back
abbrev pub half_cube_chain : List Link
half_cube_chain = record { face = 0; ends = (0, 1) } ∷ record { face = 1; ends = (2, 3) } ∷ []

-- five squares around five vertices
abbrev pub five_torus : Mesh
five_torus = record {
  vertices = 5;
  faces = (0 ∷ 1 ∷ 3 ∷ 2 ∷ []) ∷ (1 ∷ 2 ∷ 4 ∷ 3 ∷ []) ∷ (2 ∷ 3 ∷ 0 ∷ 4 ∷ [])
      ∷ (3 ∷ 4 ∷ 1 ∷ 0 ∷ []) ∷ (4 ∷ 0 ∷ 2 ∷ 1 ∷ []) ∷ [];
}
