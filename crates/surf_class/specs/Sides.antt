-- Sets of faces that a chain of edges parts, along a tree of the faces.
use Rattle.std.specs.Prelude.{◌≡◌, ◌≢◌, ℕ, ◌<◌, Bool, false, List, length, slice_index, slice_index_or, Option, Some}
use Rattle.std.specs.Prelude.{None, unwrap_or}
use Rattle.surf_z2.specs.Parity.{xor}
use Rattle.surf_surfaces.specs.Mesh.{Mesh}
use Rattle.surf_surfaces.specs.Homology.{boundary}
use Rattle.surf_surfaces.specs.Surface.{face_count}
use Rattle.surf_cotree.specs.Tables.{CotreeTables}

-- face 0 isn't in the set, and another face is on the other side than the face that it hangs on exactly where the
-- flag of the edge between them is on
pub record IsParted (mesh : Mesh) (t : CotreeTables) (flags : List Bool) (set : ℕ → Bool) : Type 0 where
  pub without_first : set 0 ≡ false
  pub parts : (f : ℕ) → f < face_count mesh → f ≢ 0 →
      set f ≡ xor (set (slice_index t.parents f)) (slice_index_or flags (slice_index t.ups f) false)

-- the side of a face, where it is known
abbrev pub side_at : List (Option Bool) → ℕ → Option Bool
side_at sides f = slice_index_or sides f None

-- what is known is so
abbrev pub AreSidesOf : (ℕ → Bool) → List (Option Bool) → Type 0
AreSidesOf set sides = (f : ℕ) (side : Bool) → f < length sides → side_at sides f ≡ Some side → side ≡ set f

-- it is known of each face on which side it is
abbrev pub AreAllSidesOf : (ℕ → Bool) → List (Option Bool) → Type 0
AreAllSidesOf set sides = (f : ℕ) → f < length sides → side_at sides f ≡ Some (set f)

-- whether a face is known to be in the set
abbrev pub is_inside : List (Option Bool) → ℕ → Bool
is_inside sides f = unwrap_or (side_at sides f) false

-- the flag of an edge is on and the edge doesn't bound the set of faces, or it does and the flag is off
abbrev pub differs : Mesh → List Bool → (ℕ → Bool) → ℕ → Bool
differs mesh flags set e = xor (slice_index_or flags e false) (boundary mesh set e)
