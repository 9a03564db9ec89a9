-- Small meshes, by which the definitions can be tried.
use Rattle.std.specs.Prelude.{ℕ, List, [], ◌∷◌}
use Rattle.surf_surfaces.specs.Mesh.{Mesh}

-- the torus of 3 by 3 squares, each cut into two triangles
abbrev pub three_torus : Mesh
three_torus = record {
  vertices = 9;
  faces =
      (0 ∷ 3 ∷ 4 ∷ []) ∷ (0 ∷ 4 ∷ 1 ∷ []) ∷ (1 ∷ 4 ∷ 5 ∷ []) ∷ (1 ∷ 5 ∷ 2 ∷ [])
      ∷ (2 ∷ 5 ∷ 3 ∷ []) ∷ (2 ∷ 3 ∷ 0 ∷ []) ∷ (3 ∷ 6 ∷ 7 ∷ []) ∷ (3 ∷ 7 ∷ 4 ∷ [])
      ∷ (4 ∷ 7 ∷ 8 ∷ []) ∷ (4 ∷ 8 ∷ 5 ∷ []) ∷ (5 ∷ 8 ∷ 6 ∷ []) ∷ (5 ∷ 6 ∷ 3 ∷ [])
      ∷ (6 ∷ 0 ∷ 1 ∷ []) ∷ (6 ∷ 1 ∷ 7 ∷ []) ∷ (7 ∷ 1 ∷ 2 ∷ []) ∷ (7 ∷ 2 ∷ 8 ∷ [])
      ∷ (8 ∷ 2 ∷ 0 ∷ []) ∷ (8 ∷ 0 ∷ 6 ∷ []) ∷ [];
}

-- its edges
abbrev pub three_torus_edges : List (ℕ × ℕ)
three_torus_edges =
    (0, 1) ∷ (0, 2) ∷ (0, 3) ∷ (0, 4) ∷ (0, 6) ∷ (0, 8) ∷ (1, 2) ∷ (1, 4) ∷ (1, 5)
    ∷ (1, 6) ∷ (1, 7) ∷ (2, 3) ∷ (2, 5) ∷ (2, 7) ∷ (2, 8) ∷ (3, 4) ∷ (3, 5) ∷ (3, 6)
    ∷ (3, 7) ∷ (4, 5) ∷ (4, 7) ∷ (4, 8) ∷ (5, 6) ∷ (5, 8) ∷ (6, 7) ∷ (6, 8) ∷ (7, 8) ∷ []

-- a length for each: that of edge k is one more than the remainder of 7 k + 13 by 97
abbrev pub three_torus_lengths : List ℕ
three_torus_lengths =
    14 ∷ 21 ∷ 28 ∷ 35 ∷ 42 ∷ 49 ∷ 56 ∷ 63 ∷ 70 ∷ 77 ∷ 84 ∷ 91 ∷ 1 ∷ 8 ∷ 15 ∷ 22 ∷ 29 ∷ 36
    ∷ 43 ∷ 50 ∷ 57 ∷ 64 ∷ 71 ∷ 78 ∷ 85 ∷ 92 ∷ 2 ∷ []

-- the projective plane of ten triangles on six vertices, in which any two vertices are joined
abbrev pub six_plane : Mesh
six_plane = record {
  vertices = 6;
  faces =
      (0 ∷ 1 ∷ 2 ∷ []) ∷ (0 ∷ 2 ∷ 3 ∷ []) ∷ (0 ∷ 3 ∷ 4 ∷ []) ∷ (0 ∷ 4 ∷ 5 ∷ []) ∷ (0 ∷ 1 ∷ 5 ∷ [])
      ∷ (1 ∷ 2 ∷ 4 ∷ []) ∷ (2 ∷ 3 ∷ 5 ∷ []) ∷ (1 ∷ 3 ∷ 4 ∷ []) ∷ (2 ∷ 4 ∷ 5 ∷ []) ∷ (1 ∷ 3 ∷ 5 ∷ []) ∷ [];
}

-- its edges
abbrev pub six_plane_edges : List (ℕ × ℕ)
six_plane_edges =
    (0, 1) ∷ (0, 2) ∷ (0, 3) ∷ (0, 4) ∷ (0, 5) ∷ (1, 2) ∷ (1, 3) ∷ (1, 4) ∷ (1, 5)
    ∷ (2, 3) ∷ (2, 4) ∷ (2, 5) ∷ (3, 4) ∷ (3, 5) ∷ (4, 5) ∷ []
