-- What is kept of a soup while its faces are tested.
use Rattle.std.specs.Prelude.{◌≡◌, ℕ, ◌<◌, List, Bool}
use Rattle.surf_surfaces.specs.Mesh.{Mesh, edges}
use Rattle.surf_surfaces.specs.Surface.{face_count}
use Rattle.surf_surfaces.specs.SideNumber.{owners}
use Rattle.surf_soup.specs.First.{AreFirstSides}
use Rattle.surf_soup.specs.Half.{AreAllMates}
use Rattle.surf_soup.specs.Pairing.{AreGreaterEnds}
use Rattle.surf_soup.specs.Pairs.{HasTwoFaces}
use Rattle.surf_soup.specs.Vertices.{AllMet}

-- A soup has a face, each edge has two faces and each vertex is in a face, as its tables show: the mate and the face of
-- each side, whether each vertex is the greater end of an edge, and its first side.
pub record IsMatedSoup (mesh : Mesh) (mate face_of first : List ℕ) (greater : List Bool) : Type 0 where
  pub some : 0 < face_count mesh
  pub two : HasTwoFaces mesh
  pub met : AllMet mesh
  pub mates : AreAllMates mesh mate
  pub faces : face_of ≡ owners 0 mesh.faces
  pub firsts : AreFirstSides mesh first
  pub ends : AreGreaterEnds mesh.vertices (edges mesh) greater
