-- Why a mesh is no disc.
use Rattle.std.specs.Prelude.{◌≡◌, ◌≢◌, ℕ, ◌+◌, ◌<◌, ◌≤◌, List, length, take}
use Rattle.surf_surfaces.specs.Disc.{IsBorderEdge}
use Rattle.surf_surfaces.specs.Mesh.{Mesh}
use Rattle.surf_surfaces.specs.Surface.{face_count, edge_count, ends, faces_with, HasOneFan, IsConnected}
use Rattle.surf_soup.specs.Pairs.{degree}
use Rattle.surf_soup.specs.Vertices.{AllMet, IsLeastIsolated}
use Rattle.surf_soup.specs.Ring.{IsLeastPinch}
use Rattle.surf_soup.specs.Apart.{IsLeastApart}
use Rattle.surf_disc.specs.Across.{NoneCrowded}
use Rattle.surf_disc.specs.Border.{IsLeastOnBorder, IsLeastOutside, HasOneBorder}
use Rattle.surf_disc.specs.declared.faults.BorderKind.{BorderKind}
use Rattle.surf_disc.specs.declared.faults.BorderKind.TheVariants.{Nothing, Two}
use Rattle.surf_disc.specs.declared.faults.DiscFault.{DiscFault}
use Rattle.surf_disc.specs.declared.faults.DiscFault.TheVariants.{Crowded, Isolated, Pinched, Apart, Border, Count}
use Rattle.surf_disc.specs.declared.faults.DiscFault.TheVariants.{Memory}

-- the least edge that is a side of three or more faces, and its three least faces
pub record IsLeastCrowded (mesh : Mesh) (p : ℕ × ℕ) (faces : List ℕ) (e : ℕ) : Type 0 where
  pub is_edge : e < edge_count mesh
  pub its_ends : ends mesh e ≡ p
  pub many : 3 ≤ length (faces_with mesh p)
  pub its_faces : take 3 (faces_with mesh p) ≡ faces
  pub none_before : (d : ℕ) → d < e → degree mesh d ≤ 2

-- the faces at each vertex are one fan
abbrev pub AllFans : Mesh → Type 0
AllFans mesh = (v : ℕ) → v < mesh.vertices → HasOneFan mesh v

-- each edge has one or two faces, each vertex one fan, and the faces are connected
pub record IsPatch (mesh : Mesh) : Type 0 where
  pub none_crowded : NoneCrowded mesh
  pub all_met : AllMet mesh
  pub all_fans : AllFans mesh
  pub connected : IsConnected mesh

-- no border, or the least border edge and the least one outside its cycle
abbrev pub IsBorderFault : Mesh → BorderKind → Type 0
IsBorderFault mesh Nothing = (e : ℕ) → IsBorderEdge mesh e → ⊥
IsBorderFault mesh (Two u v s t) =
    (e : ℕ) × (h : ℕ) × IsLeastOnBorder mesh e × IsLeastOutside mesh e h × (ends mesh e ≡ (u, v)) ×
    (ends mesh h ≡ (s, t))

-- What each fault says: its condition with the least witness, and that none of the faults before it holds.
abbrev pub IsDiscFault : Mesh → DiscFault → Type 0
IsDiscFault mesh (Crowded u v faces) = (e : ℕ) × IsLeastCrowded mesh (u, v) faces e
IsDiscFault mesh (Isolated v) = NoneCrowded mesh × IsLeastIsolated mesh v
IsDiscFault mesh (Pinched v first second) = NoneCrowded mesh × AllMet mesh × IsLeastPinch mesh v first second
IsDiscFault mesh (Apart face) = NoneCrowded mesh × AllMet mesh × AllFans mesh × IsLeastApart mesh face
IsDiscFault mesh (Border kind) = IsPatch mesh × IsBorderFault mesh kind
IsDiscFault mesh (Count vertices edges faces) =
    IsPatch mesh × ((e : ℕ) × IsBorderEdge mesh e) × HasOneBorder mesh
    × (vertices ≡ mesh.vertices) × (edges ≡ edge_count mesh) × (faces ≡ face_count mesh)
    × (vertices + faces ≢ edges + 1)
IsDiscFault mesh Memory = Unit {0}
