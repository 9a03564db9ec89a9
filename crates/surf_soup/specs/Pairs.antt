-- Whether the edges of a mesh are paired, and the least edges that aren't.
use Rattle.std.specs.Prelude.{◌≡◌, ◌≢◌, ℕ, ◌<◌, ◌≤◌, List, [], ◌∷◌, length, get_or, take}
use Rattle.surf_surfaces.specs.Mesh.{Mesh}
use Rattle.surf_surfaces.specs.Surface.{face_count, edge_count, ends, faces_with}
use Rattle.surf_soup.specs.declared.pairs.PairFault.{PairFault}
use Rattle.surf_soup.specs.declared.pairs.PairFault.TheVariants.{Empty, Border, Crowded, Memory}

-- no row has a length within bounds
abbrev pub NoneWithin : ℕ → ℕ → List (List ℕ) → Type 0
NoneWithin least most rows =
    (e : ℕ) → e < length rows → (least ≤ length (get_or rows e []) → length (get_or rows e []) ≤ most → ⊥)

-- a row's length is within bounds, and that of no earlier row is
pub record IsFirstWithin (least most : ℕ) (rows : List (List ℕ)) (e : ℕ) : Type 0 where
  pub is_row : e < length rows
  pub at_least : least ≤ length (get_or rows e [])
  pub at_most : length (get_or rows e []) ≤ most
  pub none_before : (d : ℕ) → d < e → (least ≤ length (get_or rows d []) → length (get_or rows d []) ≤ most → ⊥)

-- how many faces the e-th edge has
abbrev pub degree : Mesh → ℕ → ℕ
degree mesh e = length (faces_with mesh (ends mesh e))

-- every edge is a side of exactly two faces
abbrev pub HasTwoFaces : Mesh → Type 0
HasTwoFaces mesh = (e : ℕ) → e < edge_count mesh → degree mesh e ≡ 2

-- the least edge that is a side of one face only, and the face
pub record IsLeastBorder (mesh : Mesh) (p : ℕ × ℕ) (face e : ℕ) : Type 0 where
  pub is_edge : e < edge_count mesh
  pub its_ends : ends mesh e ≡ p
  pub its_face : faces_with mesh p ≡ face ∷ []
  pub none_before : (d : ℕ) → d < e → degree mesh d ≢ 1

-- the least edge that is a side of three or more faces, and its three least faces, where no edge is a side of one
-- face only
pub record IsLeastCrowd (mesh : Mesh) (p : ℕ × ℕ) (faces : List ℕ) (e : ℕ) : Type 0 where
  pub is_edge : e < edge_count mesh
  pub its_ends : ends mesh e ≡ p
  pub many : 3 ≤ length (faces_with mesh p)
  pub its_faces : take 3 (faces_with mesh p) ≡ faces
  pub none_before : (d : ℕ) → d < e → degree mesh d < 3
  pub no_border : (d : ℕ) → d < edge_count mesh → degree mesh d ≢ 1

-- what each fault says
abbrev pub IsPairFault : Mesh → PairFault → Type 0
IsPairFault mesh Empty = face_count mesh ≡ 0
IsPairFault mesh (Border u v face) = (0 < face_count mesh) × ((e : ℕ) × IsLeastBorder mesh (u, v) face e)
IsPairFault mesh (Crowded u v faces) = (0 < face_count mesh) × ((e : ℕ) × IsLeastCrowd mesh (u, v) faces e)
IsPairFault mesh Memory = Unit {0}
