-- Walks along edges: their lengths, and which edges they run an odd number of times.
use Rattle.std.specs.List.{position_or_len}
use Rattle.std.specs.Prelude.{◌≡◌, ℕ, ◌<◌, ◌≤◌, Bool, List, [], ◌∷◌, length, map, All, Contains, sum, slice_index}
use Rattle.surf_surfaces.specs.Mesh.{Mesh, steps, pair_of, pair_eq, edges}
use Rattle.surf_z2.specs.Parity.{odd}
use Rattle.surf_surfaces.specs.Surface.{edge_count, ends}

-- the first and the last of a list that is not empty
abbrev pub first : List ℕ → ℕ
first [] = 0
first (v ∷ rest) = v

-- the last vertex of a walk that begins at v
abbrev pub last_from : ℕ → List ℕ → ℕ
last_from v [] = v
last_from v (w ∷ rest) = last_from w rest

-- the last vertex of a walk
abbrev pub last : List ℕ → ℕ
last [] = 0
last (v ∷ rest) = last_from v rest

-- a list of vertices, not empty, neighbours joined by an edge
pub record IsWalk (mesh : Mesh) (walk : List ℕ) : Type 0 where
  pub begins : 0 < length walk
  pub vertices : All (λ v. v < mesh.vertices) walk
  pub along_edges : All (λ s. Contains (edges mesh) (pair_of s)) (steps walk)

-- it ends where it began
pub record IsClosed (mesh : Mesh) (walk : List ℕ) : Type 0 where
  pub is_walk : IsWalk mesh walk
  pub returns : first walk ≡ last walk

-- a closed walk that begins at a vertex
pub record IsClosedAt (mesh : Mesh) (base : ℕ) (walk : List ℕ) : Type 0 where
  pub is_closed : IsClosed mesh walk
  pub at_base : first walk ≡ base

-- the place of a pair in a list, or the list's length
abbrev pub place_of : ℕ × ℕ → List (ℕ × ℕ) → ℕ
place_of p pairs = position_or_len (pair_eq p) pairs

-- the number of the edge that a step is along
abbrev pub edge_number : Mesh → ℕ × ℕ → ℕ
edge_number mesh s = place_of (pair_of s) (edges mesh)

-- the length of the e-th edge; lengths go by edge number
abbrev pub edge_length : List ℕ → ℕ → ℕ
edge_length lengths e = slice_index lengths e

-- each edge's length is at least 1
abbrev pub ArePositive : Mesh → List ℕ → Type 0
ArePositive mesh lengths = (e : ℕ) → e < edge_count mesh → 1 ≤ edge_length lengths e

-- the sum of the lengths over the steps, repeats counted
abbrev pub walk_length : Mesh → List ℕ → List ℕ → ℕ
walk_length mesh lengths walk = sum (map (λ s. edge_length lengths (edge_number mesh s)) (steps walk))

-- whether the walk runs the e-th edge an odd number of times
abbrev pub parity : Mesh → List ℕ → ℕ → Bool
parity mesh walk e = odd (map (λ s. pair_eq (ends mesh e) (pair_of s)) (steps walk))
