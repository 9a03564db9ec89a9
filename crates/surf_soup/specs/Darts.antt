-- What is kept for rounds of the vertices.
use Rattle.std.specs.Prelude.{◌≡◌, ℕ, List}
use Rattle.surf_surfaces.specs.Mesh.{Mesh}
use Rattle.surf_surfaces.specs.SideNumber.{owners}
use Rattle.surf_soup.specs.Vertices.{AllMet}
use Rattle.surf_soup.specs.Ring.{AreDartTables}
use Rattle.surf_soup.specs.First.{AreFirstSides}

-- a soup, and the mate of each side
pub record DartTables : Type 0 where
  pub mesh : Mesh
  pub mate : List ℕ

-- the face and the mate of each side, and the first side of each vertex, where every vertex is in a face
pub record AreDartsKept (mesh : Mesh) (face_of mate first : List ℕ) : Type 0 where
  pub tables : AreDartTables mesh mate
  pub faces : face_of ≡ owners 0 mesh.faces
  pub firsts : AreFirstSides mesh first
  pub met : AllMet mesh
