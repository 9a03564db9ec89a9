-- The least side at each vertex.
use Rattle.std.specs.Prelude.{◌≡◌, ◌≢◌, ℕ, ◌<◌, ◌≤◌, true, false, Bool, List, length, get_or}
use Rattle.surf_surfaces.specs.Mesh.{Mesh}
use Rattle.surf_surfaces.specs.SideNumber.{side_count}
use Rattle.surf_soup.specs.Reach.{marked}
use Rattle.surf_soup.specs.Ring.{BeginsAt}

-- for each vertex the least of the sides from one on that begin there; the number of all sides where there is none
pub record AreFirstFrom (mesh : Mesh) (from : ℕ) (first : List ℕ) : Type 0 where
  pub size : length first ≡ mesh.vertices
  pub begin : (v : ℕ) → v < mesh.vertices → get_or first v 0 ≢ side_count mesh → BeginsAt mesh v (get_or first v 0)
  pub least : (v s : ℕ) → v < mesh.vertices → from ≤ s → BeginsAt mesh v s → get_or first v 0 ≤ s

-- for each vertex the least of the sides that begin there; the number of all sides where there is none
abbrev pub AreFirstSides : Mesh → List ℕ → Type 0
AreFirstSides mesh first = AreFirstFrom mesh 0 first

-- the least vertex with a side that isn't marked, and the least such side there
pub record IsFirstLeft (corners : List ℕ) (seen : List Bool) (v s : ℕ) : Type 0 where
  pub is_side : s < length corners
  pub at : get_or corners s 0 ≡ v
  pub left : marked seen s ≡ false
  pub none_lower : (t : ℕ) → t < length corners → get_or corners t 0 < v → marked seen t ≡ true
  pub none_before : (t : ℕ) → t < s → get_or corners t 0 ≡ v → marked seen t ≡ true
