-- Heights: how many closed walks of a list the signature of an edge needs.
use Rattle.std.specs.Prelude.{◌≡◌, ℕ, ◌<◌, ◌≤◌, Bool, true, IsTrue, nat_lt, List, [], length, map, take, All, slice_index_or}
use Rattle.std.specs.Prelude.{Option, Some, None}
use Rattle.surf_z2.specs.Space.{numbers, Spanned}
use Rattle.surf_graphs.specs.Cells.{Split, IsSplit}
use Rattle.surf_surfaces.specs.Mesh.{Mesh}
use Rattle.surf_surfaces.specs.Surface.{edge_count, IsSurface}
use Rattle.surf_surfaces.specs.Walk.{IsClosed, walk_length, parity}
use Rattle.surf_surfaces.specs.Cells.{cells_of}
use Rattle.surf_surfaces.specs.Class.{class_of}
use Rattle.surf_surfaces.specs.Signature.{edge_signature}
use Rattle.surf_surfaces.specs.Choice.{DependsOn}

-- the edges that the walk runs an odd number of times are, up to a boundary, the sum of those of closed walks that are
-- shorter than it
pub record IsSumOfShorter (mesh : Mesh) (lengths : List ℕ) (walk : List ℕ) : Type 0 where
  pub others : List (List ℕ)
  pub closed : All (IsClosed mesh) others
  pub shorter : All (λ w. walk_length mesh lengths w < walk_length mesh lengths walk) others
  pub sum : DependsOn mesh others walk

-- the height of each edge: its signature is a sum of those of so many first closed walks of the list. An edge without a
-- height may have any signature. The heights need not be the least
pub record AreHeights (mesh : Mesh) (d : Split) (cycles : List (List ℕ)) (height : ℕ → Option ℕ) : Type 0 where
  pub within : (e n : ℕ) → e < edge_count mesh → height e ≡ Some n → n ≤ length cycles
  pub spanned : (e n : ℕ) → e < edge_count mesh → height e ≡ Some n →
      Spanned numbers (map (class_of mesh d) (take n cycles)) (edge_signature mesh d e)

-- whether a height is above i. None is above all
abbrev pub is_above : ℕ → Option ℕ → Bool
is_above i None = true
is_above i (Some n) = nat_lt i n

-- the closed walk at a place of a list
abbrev pub cycle_at : List (List ℕ) → ℕ → List ℕ
cycle_at cycles i = slice_index_or cycles i []

-- A closed walk that is no sum of shorter ones, and longer than the first i of some closed walks,
-- runs an edge an odd number of times whose height among these walks is above i.
abbrev pub HighEdgesExist : Type 0
HighEdgesExist =
    (mesh : Mesh) (lengths : List ℕ) (d : Split) (cycles : List (List ℕ)) (height : ℕ → Option ℕ) (i : ℕ)
    (walk : List ℕ) → IsSurface mesh → IsSplit (cells_of mesh) d → All (IsClosed mesh) cycles →
    AreHeights mesh d cycles height → IsClosed mesh walk → (IsSumOfShorter mesh lengths walk → ⊥) →
    ((j : ℕ) → j < i → j < length cycles →
    walk_length mesh lengths (cycle_at cycles j) < walk_length mesh lengths walk) →
    (e : ℕ) × (e < edge_count mesh) × (parity mesh walk e ≡ true) × IsTrue (is_above i (height e))
