-- The border sides at the copies of an opened surface.
use Rattle.std.specs.Prelude.{◌≡◌, ◌≢◌, ℕ, ◌<◌, ◌==◌, ◌⊎◌, cond, List, [], length, map, slice_index_or}
use Rattle.surf_surfaces.specs.Disc.{IsDisc}
use Rattle.surf_surfaces.specs.Mesh.{Mesh}
use Rattle.surf_surfaces.specs.Surface.{face_count, face_at}
use Rattle.surf_base.specs.Tables.{nobody}
use Rattle.surf_cutter.specs.Boundary.{HasCopy, HasPairedBorder, IsBorderSide, AreBorderSides}

-- faces with as many corners as those of a surface
pub record HaveSameSizes (mesh : Mesh) (faces : List (List ℕ)) : Type 0 where
  pub count : length faces ≡ face_count mesh
  pub sizes : (f : ℕ) → f < face_count mesh → length (slice_index_or faces f []) ≡ length (face_at mesh f)

-- a disc with as many corners in its faces as those of a surface have, and its border sides in their order
pub record IsBordered (mesh disc : Mesh) (sides : List ℕ) : Type 0 where
  pub sizes : HaveSameSizes mesh disc.faces
  pub is_disc : IsDisc disc
  pub paired : HasPairedBorder disc
  pub all : AreBorderSides disc sides

-- two sides beside the copies to which they lead, the first of which may still be missing, with one side more
abbrev pub with_reach : (ℕ × ℕ) × (ℕ × ℕ) → ℕ × ℕ → (ℕ × ℕ) × (ℕ × ℕ)
with_reach rim reach = cond (rim.0.0 == nobody) (reach, rim.1) (rim.0, reach)

-- of two sides the one that isn't the given one, and the copy to which it leads
abbrev pub other_reach : (ℕ × ℕ) × (ℕ × ℕ) → ℕ → ℕ × ℕ
other_reach rim s = cond (rim.0.0 == s) rim.1 rim.0

-- the two sides at each copy, without the copies to which they lead
abbrev pub sides_of : List ((ℕ × ℕ) × (ℕ × ℕ)) → List (ℕ × ℕ)
sides_of rims = map (λ rim. (rim.0.0, rim.1.0)) rims

-- a side, which may still be missing, and its copy beside c
abbrev pub LeadsFrom : Mesh → ℕ → ℕ × ℕ → Type 0
LeadsFrom mesh c reach = reach.0 ≢ nobody → HasCopy mesh reach.0 reach.1 × (reach.1 ≢ c)

-- at each copy, the copies to which the two sides there lead
abbrev pub AreReaches : Mesh → List ((ℕ × ℕ) × (ℕ × ℕ)) → Type 0
AreReaches mesh rims = (c : ℕ) → c < length rims →
    LeadsFrom mesh c (slice_index_or rims c ((0, 0), (0, 0))).0 × LeadsFrom mesh c (slice_index_or rims c ((0, 0), (0, 0))).1

-- a side is one of two
abbrev pub IsOneOf : ℕ × ℕ → ℕ → Type 0
IsOneOf rim s = (rim.0 ≡ s) ⊎ (rim.1 ≡ s)

-- two sides for each copy, among which are the border sides that have it
pub record AreRims (mesh : Mesh) (rims : List (ℕ × ℕ)) : Type 0 where
  pub size : length rims ≡ mesh.vertices
  pub all : (s c : ℕ) → IsBorderSide mesh s → HasCopy mesh s c → IsOneOf (slice_index_or rims c (0, 0)) s
