-- Faces that all run the same way, and what is kept of a surface.
use Rattle.std.specs.Prelude.{◌≡◌, ◌<◌, ℕ, false, List, get_or}
use Rattle.surf_surfaces.specs.Mesh.{Mesh}
use Rattle.surf_surfaces.specs.Surface.{IsSurface, IsOrientation}
use Rattle.surf_surfaces.specs.SideNumber.{side_count}
use Rattle.surf_soup.specs.Vertices.{all_corners}
use Rattle.surf_check.specs.declared.kinds.Kept.{Kept}
use Rattle.surf_check.specs.declared.kinds.Kept.TheVariants.{OneWay, Other}

-- as they are listed, the two faces of each edge run it in opposite ways: no face is turned
abbrev pub RunOneWay : Mesh → Type 0
RunOneWay mesh = IsOrientation mesh (λ _. false)

-- a side and its mate begin at one vertex
abbrev pub BeginsWithMate : Mesh → List ℕ → ℕ → Type 0
BeginsWithMate mesh mate s = get_or (all_corners mesh) (get_or mate s 0) 0 ≡ get_or (all_corners mesh) s 0

-- no side does
abbrev pub NoneBeginWithMates : Mesh → List ℕ → Type 0
NoneBeginWithMates mesh mate = (s : ℕ) → s < side_count mesh → BeginsWithMate mesh mate s → ⊥

-- the mesh that is kept
abbrev pub kept_mesh : Kept → Mesh
kept_mesh (OneWay soup) = soup
kept_mesh (Other surface) = surface

-- what is known of it
abbrev pub IsKeptKind : Kept → Type 0
IsKeptKind (OneWay soup) = IsSurface soup × RunOneWay soup
IsKeptKind (Other surface) = Unit {0}
