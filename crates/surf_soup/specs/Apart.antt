-- Faces that aren't joined with the first.
use Rattle.std.specs.Prelude.{◌≡◌, ℕ, ◌+◌, ◌<◌, List, [], length, get_or}
use Rattle.std.specs.List.{sum_by}
use Rattle.surf_surfaces.specs.SideNumber.{owners, first_side}
use Rattle.surf_surfaces.specs.Joined.{Joined}
use Rattle.surf_surfaces.specs.Mesh.{Mesh}
use Rattle.surf_surfaces.specs.Surface.{face_count, face_at, Share}
use Rattle.surf_soup.specs.Forest.{HasRoots}

-- the least face that isn't joined with face 0
pub record IsLeastApart (mesh : Mesh) (f : ℕ) : Type 0 where
  pub is_face : f < face_count mesh
  pub apart : Joined (Share mesh) 0 f → ⊥
  pub joined_before : (g : ℕ) → g < f → Joined (Share mesh) 0 g

-- two faces have one root exactly where they are joined
pub record AreFaceRoots (mesh : Mesh) (parents : List ℕ) (root : ℕ → ℕ) : Type 0 where
  pub size : length parents ≡ face_count mesh
  pub roots : HasRoots parents root
  pub sound : (f : ℕ) → f < face_count mesh → Joined (Share mesh) (root f) f
  pub complete : (f g : ℕ) → Share mesh f g → root f ≡ root g

-- for each face a row with the face across each of its sides
pub record AreAcross (mesh : Mesh) (mate : List ℕ) (count : ℕ) (rows : List (List ℕ)) : Type 0 where
  pub size : length rows ≡ count
  pub row_len : (f : ℕ) → f < count → length (get_or rows f []) ≡ length (face_at mesh f)
  pub row_at : (f m : ℕ) → f < count → m < length (face_at mesh f) →
      get_or (get_or rows f []) m 0 ≡ get_or (owners 0 mesh.faces) (get_or mate (first_side mesh f + m) 0) 0
  pub total : sum_by length rows ≡ first_side mesh count
