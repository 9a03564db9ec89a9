-- Tables of edges and sides.
use Rattle.std.specs.Prelude.{◌≡◌, ℕ, ◌<◌, List, length, get_or, map}
use Rattle.std.specs.List.{range_with_len}
use Rattle.surf_surfaces.specs.Mesh.{Mesh, edges}
use Rattle.surf_surfaces.specs.Surface.{edge_count, ends}
use Rattle.surf_surfaces.specs.SideNumber.{side_count, pair_at, owners, sides_with}
use Rattle.surf_soup.specs.declared.tables.EdgeTable.{EdgeTable}

-- for each side the number of its edge
pub record AreEdgeNumbers (mesh : Mesh) (edge_of : List ℕ) : Type 0 where
  pub size : length edge_of ≡ side_count mesh
  pub below : (s : ℕ) → s < side_count mesh → get_or edge_of s 0 < edge_count mesh
  pub same : (s : ℕ) → s < side_count mesh → ends mesh (get_or edge_of s 0) ≡ pair_at mesh s

-- the edges, the sides of each, and for each side its edge, its face and its number
pub record IsEdgeTable (mesh : Mesh) (edge_list : List (ℕ × ℕ)) (sides : List (List ℕ))
    (edge_of face_of numbers : List ℕ) : Type 0 where
  pub edge_list_is : edge_list ≡ edges mesh
  pub sides_are : sides ≡ map (sides_with mesh) (edges mesh)
  pub edge_numbers : AreEdgeNumbers mesh edge_of
  pub face_of_is : face_of ≡ owners 0 mesh.faces
  pub numbers_are : numbers ≡ range_with_len 0 (side_count mesh)

-- a table as the code has it
abbrev pub IsTableOf : Mesh → EdgeTable → Type 0
IsTableOf mesh table =
    IsEdgeTable mesh table.edges.items table.sides table.edge_of.items table.face_of.items table.numbers.items
