-- Words on the tables of border sides that are being filled.
use Rattle.surf_slit.proofs.Common.{◌≡◌, ◌≢◌, ℕ, ◌<◌, List, length, slice_index, slice_index_or}
use Rattle.surf_cutter.proofs.Common.{nobody, HasCopy, IsOneOf}
use Rattle.surf_surfaces.specs.Mesh.{Mesh}

-- the faces over copies of which there are so many
abbrev pub over : ℕ → List (List ℕ) → Mesh
over copies faces = record { vertices = copies; faces = faces }

-- a side is one of the first n of a list and has a copy
abbrev pub IsListedAt : Mesh → List ℕ → ℕ → ℕ → ℕ → Type 0
IsListedAt mesh border n c s = (k : ℕ) × (k < n) × (slice_index border k ≡ s) × HasCopy mesh s c

-- two sides at a copy, either of which may still be missing, among which are those of the first n of a list
pub record IsRimTo (mesh : Mesh) (border : List ℕ) (n c : ℕ) (rim : ℕ × ℕ) : Type 0 where
  pub all : (k : ℕ) → k < n → HasCopy mesh (slice_index border k) c → IsOneOf rim (slice_index border k)
  pub first : rim.0 ≢ nobody → IsListedAt mesh border n c rim.0
  pub second : rim.1 ≢ nobody → IsListedAt mesh border n c rim.1
  pub in_turn : rim.1 ≢ nobody → (rim.0 ≢ nobody) × (rim.0 ≢ rim.1)

-- the same for each copy
pub record AreRimsTo (mesh : Mesh) (border : List ℕ) (n : ℕ) (rims : List (ℕ × ℕ)) : Type 0 where
  pub size : length rims ≡ mesh.vertices
  pub at : (c : ℕ) → c < mesh.vertices → IsRimTo mesh border n c (slice_index_or rims c (0, 0))
