-- Sides by their places in faces, and the two sides of an edge.
use Rattle.std.specs.Prelude.{◌≡◌, ◌≢◌, ℕ, ◌+◌, ◌-◌, ◌<◌, ◌==◌, ◌↔◌, ◌⊎◌, true, nat_lt, if◌then◌else◌, List, length}
use Rattle.std.specs.Prelude.{slice_index, slice_index_or}
use Rattle.surf_surfaces.specs.Mesh.{Mesh, IsFace, sides, pair}
use Rattle.surf_surfaces.specs.Surface.{face_count, face_at, has_side}

-- around n places: the one after a place, and the one before it
abbrev pub after : ℕ → ℕ → ℕ
after n k = if nat_lt (k + 1) n then k + 1 else 0

-- the one before it
abbrev pub before : ℕ → ℕ → ℕ
before n k = if k == 0 then n - 1 else k - 1

-- the corner at a place
abbrev pub corner : List ℕ → ℕ → ℕ
corner face k = slice_index face k

-- the ends of the side that begins at a place
abbrev pub side_pair : List ℕ → ℕ → ℕ × ℕ
side_pair face k = pair (corner face k) (corner face (after (length face) k))

-- The side at a place leads from the corner there to the one after it.
abbrev pub SidesAreByPlace : Type 0
SidesAreByPlace = (face : List ℕ) (k : ℕ) → k < length face → slice_index_or (sides face) k (0, 0)
    ≡ (corner face k, corner face (after (length face) k))

-- A pair is a side where it is the side at some place.
abbrev pub SidesArePlaced : Type 0
SidesArePlaced = (face : List ℕ) (p : ℕ × ℕ) →
    (has_side p face ≡ true) ↔ ((k : ℕ) × (k < length face) × (side_pair face k ≡ p))

-- A corner's sides lead to the corners after it and before it.
abbrev pub CornersHaveNeighbours : Type 0
CornersHaveNeighbours =
    (n : ℕ) (face : List ℕ) → IsFace n face → (k w : ℕ) → k < length face →
    (has_side (pair (corner face k) w) face ≡ true)
    ↔ ((w ≡ corner face (after (length face) k)) ⊎ (w ≡ corner face (before (length face) k)))

-- two sides of different faces that are one edge
pub record AreMates (mesh : Mesh) (f k g j : ℕ) : Type 0 where
  pub other_face : f ≢ g
  pub is_face : g < face_count mesh
  pub is_place : j < length (face_at mesh g)
  pub same_edge : side_pair (face_at mesh f) k ≡ side_pair (face_at mesh g) j

-- Each side of a surface has one mate: the side of another face that is the same edge.
pub record SidesHaveMates (mesh : Mesh) : Type 0 where
  pub some : (f k : ℕ) → f < face_count mesh → k < length (face_at mesh f) →
      (g : ℕ) × (j : ℕ) × AreMates mesh f k g j
  pub one : (f k g j h i : ℕ) → f < face_count mesh → k < length (face_at mesh f) → AreMates mesh f k g j →
      AreMates mesh f k h i → (g ≡ h) × (j ≡ i)
