-- Words on the sides of polygons, and on corners and sides that uncut edges make one.
use Rattle.surf_surfaces.proofs.Common.{◌≡◌, ◌≢◌, ℕ, ◌<◌, ◌⊎◌, List, ◌↔◌, [], length, map, All, Contains, slice_index, slice_index_or, Joined, Mesh, face_count, face_at}
use Rattle.surf_opening.specs.Rim.{Among}
use Rattle.surf_opening.proofs.gluing.RimWords.{Reaches}
use Rattle.surf_opening.specs.Uncut.{Uncut, ShareUncut, Copy, CutSide, In}
use Rattle.surf_opening.specs.Side.{Side, IsPlace}
use Rattle.surf_opening.specs.Opening.{corner_of}

-- the sides of polygons: Side f v w says that face f has the side v w, seen from v
pub record IsSides (Side : ℕ → ℕ → ℕ → Type 0) : Type 0 where
  pub turned : {f v w : ℕ} → Side f v w → Side f w v
  pub apart : {f v w : ℕ} → Side f v w → v ≢ w
  -- each side is one of two faces
  pub other_face : {f v w : ℕ} → Side f v w → (g : ℕ) × Side g v w × (f ≢ g)
  pub two_faces : {f g h v w : ℕ} → Side f v w → Side g v w → Side h v w → (f ≡ g) ⊎ ((f ≡ h) ⊎ (g ≡ h))
  -- each corner has two sides
  pub other_side : {f v w : ℕ} → Side f v w → (y : ℕ) × Side f v y × (w ≢ y)
  pub two_sides : {f v w y z : ℕ} → Side f v w → Side f v y → Side f v z → (w ≡ y) ⊎ ((w ≡ z) ⊎ (y ≡ z))
  -- the sides but one hang together
  pub round : {f p q v w x y : ℕ} → Side f p q → Side f v w → Side f x y → (Among p q v w → ⊥) →
      (Among p q x y → ⊥) →
      Reaches (λ g s t. (f ≡ g) × Side g s t × (Among p q s t → ⊥)) (λ s g h. g ≡ h) f x y f v w

-- the cut sides of these faces reach one another
abbrev pub IsOneRimAmong : (ℕ → ℕ → ℕ → Type 0) → List (ℕ × ℕ) → List ℕ → Type 0
IsOneRimAmong Side uncut faces =
    (f v w g x y : ℕ) → In faces f → In faces g → CutSide Side uncut f v w → CutSide Side uncut g x y →
    Reaches (CutSide Side uncut) (Copy Side uncut) g x y f v w

-- each corner of a face, and each of its sides, is one of the things that Is holds of
pub record IsDarts {X : Type 0} (Side : ℕ → ℕ → ℕ → Type 0) (Is : X → Type 0)
    (face first second : X → ℕ) : Type 0 where
  pub side : (x : X) → Is x → Side (face x) (first x) (second x)
  pub one_corner : (x y : X) → Is x → Is y → face x ≡ face y → first x ≡ first y → x ≡ y
  pub one_side : (x y : X) → Is x → Is y → face x ≡ face y → Among (first x) (second x) (first y) (second y) →
      x ≡ y
  pub of_corner : (f v w : ℕ) → Side f v w → (x : X) × Is x × (face x ≡ f) × (first x ≡ v)
  pub of_side : (f v w : ℕ) → Side f v w → (x : X) × Is x × (face x ≡ f) × Among (first x) (second x) v w

-- two corners at one vertex whose faces hold one copy of it
abbrev pub SameCorner : {X : Type 0} → (ℕ → ℕ → ℕ → Type 0) → (X → ℕ) → (X → ℕ) → List (ℕ × ℕ) →
    X → X → Type 0
SameCorner Side face first uncut x y = (first x ≡ first y) × Copy Side uncut (first x) (face x) (face y)

-- two sides that are one: of one face, or of both faces of an uncut edge
abbrev pub SameSide : {X : Type 0} → (X → ℕ) → (X → ℕ) → (X → ℕ) → List (ℕ × ℕ) → X → X → Type 0
SameSide face first second uncut x y = Among (first x) (second x) (first y) (second y)
    × ((face x ≡ face y) ⊎ Uncut uncut (first x) (second x))

-- the faces have an uncut edge in common
abbrev pub ShareAnyUncut : (ℕ → ℕ → ℕ → Type 0) → List (ℕ × ℕ) → ℕ → ℕ → Type 0
ShareAnyUncut Side uncut f g = (v : ℕ) × ShareUncut Side uncut v f g

-- Rows of a dual tree: each face below count but the root has a side that its parent has too, and a rank
-- above its parent's.
pub record IsDualRows (Side : ℕ → ℕ → ℕ → Type 0) (count root : ℕ) (rank parent first second : ℕ → ℕ) : Type 0
  where
    pub root_in : root < count
    pub within : (f : ℕ) → f < count → f ≢ root → parent f < count
    pub own : (f : ℕ) → f < count → f ≢ root → Side f (first f) (second f)
    pub across : (f : ℕ) → f < count → f ≢ root → Side (parent f) (first f) (second f)
    pub falls : (f : ℕ) → f < count → f ≢ root → rank (parent f) < rank f

-- any two faces at the vertex are joined by a chain of faces there, neighbours sharing an edge there
abbrev pub IsOneFan : (ℕ → ℕ → ℕ → Type 0) → ℕ → Type 0
IsOneFan Side v = (f g w y : ℕ) → Side f v w → Side g v y →
    Joined (λ f g. (w : ℕ) × Side f v w × Side g v w) f g

-- opened (IsOpenedBy) along all edges but those of a list, in the words that proofs take apart
pub record IsOpenedAlong (mesh : Mesh) (uncut : List (ℕ × ℕ)) (origins : List ℕ)
    (faces : List (List ℕ)) : Type 0 where
  pub same_faces : length faces ≡ face_count mesh
  pub same_corners : (f : ℕ) → f < face_count mesh →
      map (λ copy. slice_index origins copy) (slice_index_or faces f []) ≡ face_at mesh f
  pub inside : All (All (λ copy. copy < length origins)) faces
  pub every_copy : (copy : ℕ) → copy < length origins →
      (f : ℕ) × (f < face_count mesh) × Contains (slice_index_or faces f []) copy
  pub one_copy : (x y : ℕ × ℕ) → IsPlace mesh x → IsPlace mesh y → (corner_of faces x ≡ corner_of faces y)
      ↔ SameCorner (Side mesh) (λ x. x.0) (corner_of mesh.faces) uncut x y
