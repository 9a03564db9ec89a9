-- One-sided chains of faces.
use Rattle.std.specs.Prelude.{◌≡◌, ◌≢◌, ℕ, ◌<◌, Bool, true, not, List, [], ◌∷◌, length}
use Rattle.surf_z2.specs.Parity.{xor, odd}
use Rattle.surf_surfaces.specs.Mesh.{Mesh, pair_of}
use Rattle.surf_surfaces.specs.Surface.{face_at, runs, HasEdge, IsSurface, IsOrientable}

-- a face, and the ends of an edge that leads to the next one
pub record Link : Type 0 where
  pub face : ℕ
  pub ends : ℕ × ℕ

-- the face of the first link, or of the chain's beginning where none is left
abbrev pub next_face : List Link → ℕ → ℕ
next_face [] home = home
next_face (link ∷ rest) home = link.face

-- each link's face and the next one are two faces that have its edge
abbrev pub AreLinked : Mesh → List Link → ℕ → Type 0
AreLinked mesh [] home = Unit {0}
AreLinked mesh (link ∷ rest) home =
    (record {
      differ : link.face ≢ next_face rest home;
      first : HasEdge mesh link.face (pair_of link.ends);
      second : HasEdge mesh (next_face rest home) (pair_of link.ends);
    })
    × AreLinked mesh rest home

-- for each link, whether its two faces run its edge the same way
abbrev pub same_ways : Mesh → List Link → ℕ → List Bool
same_ways mesh [] home = []
same_ways mesh (link ∷ rest) home =
    not (xor (runs link.ends (face_at mesh link.face)) (runs link.ends (face_at mesh (next_face rest home))))
    ∷ same_ways mesh rest home

-- a chain that leads back to its first face, with an odd number of links whose faces run their edge the
-- same way
pub record IsOneSided (mesh : Mesh) (links : List Link) : Type 0 where
  pub some_link : 0 < length links
  pub linked : AreLinked mesh links (next_face links 0)
  pub odd_number : odd (same_ways mesh links (next_face links 0)) ≡ true

-- A one-sided chain excludes every turning.
abbrev pub OneSidedChainsExcludeOrientations : Type 0
OneSidedChainsExcludeOrientations = (mesh : Mesh) → IsSurface mesh → (links : List Link) → IsOneSided mesh links →
    IsOrientable mesh → ⊥
