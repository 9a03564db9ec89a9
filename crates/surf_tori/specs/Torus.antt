-- Tori of a by b squares, each cut into two triangles.
use Rattle.std.specs.Prelude.{◌≡◌, ℕ, ◌+◌, ◌*◌, ◌/◌, ◌%◌, ◌<◌, ◌≤◌, List, [], ◌∷◌, flat_map, pos}
use Rattle.std.specs.List.{range_with_len}
use Rattle.surf_surfaces.specs.Mesh.{Mesh, IsFace, characteristic}
use Rattle.surf_surfaces.specs.Surface.{face_count, edge_count, IsSurface}

-- the vertex in a row and a column; rows are taken modulo a, and columns modulo b
abbrev pub grid_vertex : ℕ → ℕ → ℕ → ℕ → ℕ
grid_vertex a b row column = row % a * b + column % b

-- the cell's corner, the one in the next row, and the one in the next row and column
abbrev pub first_face : ℕ → ℕ → ℕ → ℕ → List ℕ
first_face a b row column =
    grid_vertex a b row column ∷ grid_vertex a b (row + 1) column ∷ grid_vertex a b (row + 1) (column + 1) ∷ []

-- the cell's corner, the one in the next row and column, and the one in the next column
abbrev pub second_face : ℕ → ℕ → ℕ → ℕ → List ℕ
second_face a b row column =
    grid_vertex a b row column ∷ grid_vertex a b (row + 1) (column + 1) ∷ grid_vertex a b row (column + 1) ∷ []

-- the two faces of a cell; cells have the numbers of their corners
abbrev pub cell_faces : ℕ → ℕ → ℕ → List (List ℕ)
cell_faces a b cell = first_face a b (cell / b) (cell % b) ∷ second_face a b (cell / b) (cell % b) ∷ []

-- the faces of all cells, in the order of their numbers
abbrev pub torus_faces : ℕ → ℕ → List (List ℕ)
torus_faces a b = flat_map (cell_faces a b) (range_with_len 0 (a * b))

-- the torus of a rows and b columns
abbrev pub torus : ℕ → ℕ → Mesh
torus a b = record { vertices = a * b; faces = torus_faces a b }

-- A torus of squares is a surface from 3 rows and 3 columns on.
abbrev pub ToriAreSurfaces : Type 0
ToriAreSurfaces = (a b : ℕ) → 3 ≤ a → 3 ≤ b → IsSurface (torus a b)

-- The characteristic of a torus of squares is 0.
abbrev pub ToriHaveCharacteristicZero : Type 0
ToriHaveCharacteristicZero = (a b : ℕ) → 3 ≤ a → 3 ≤ b → characteristic (torus a b) ≡ pos 0

-- A torus of a by b squares has 2ab faces and 3ab edges.
pub record TorusCounts (a b : ℕ) : Type 0 where
  pub faces : face_count (torus a b) ≡ 2 * (a * b)
  pub edges : edge_count (torus a b) ≡ 3 * (a * b)

-- The two triangles of each square are faces over its vertices.
pub record CellsAreFaces (a b : ℕ) : Type 0 where
  pub first : (cell : ℕ) → cell < a * b → IsFace (a * b) (first_face a b (cell / b) (cell % b))
  pub second : (cell : ℕ) → cell < a * b → IsFace (a * b) (second_face a b (cell / b) (cell % b))
