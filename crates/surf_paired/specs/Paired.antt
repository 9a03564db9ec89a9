-- Cocycles that are paired with the walks of a least basis: sheets over single vertices, and rows of cocycles that are
-- made by elimination.
use Rattle.std.specs.Prelude.{◌≡◌, ℕ, zero, suc, ◌*◌, ◌<◌, ◌≤◌, ◌^◌, ◌&&◌, Bool, true, false, if◌then◌else◌, List, length, bit_xor}
use Rattle.std.specs.Prelude.{slice_index}
use Rattle.surf_z2.specs.Parity.{odd_below}
use Rattle.surf_z2.specs.Space.{Chain}
use Rattle.surf_z2.specs.Sieve.{has}
use Rattle.surf_graphs.specs.Graphs.{IsGraphWalk, walk_chain, graph_walk_length}
use Rattle.surf_graphs.specs.Cells.{primal}
use Rattle.surf_surfaces.specs.Mesh.{Mesh}
use Rattle.surf_surfaces.specs.Surface.{edge_count}
use Rattle.surf_surfaces.specs.Walk.{edge_length, walk_length}
use Rattle.surf_surfaces.specs.Cells.{cells_of}
use Rattle.surf_sheets.specs.Sheets.{walk_at, Sheet, IsInRange}

-- ---- sheets over single vertices

-- whether a walk over the listed vertices from x on has an odd number of the edges of a set
abbrev pub is_way_odd : Mesh → Chain → ℕ → List ℕ → Bool
is_way_odd mesh set x over = odd_below (edge_count mesh) (λ e. walk_chain (primal (cells_of mesh)) x over e && set e)

-- a walk from x to v which is as long as the sheet's distance of v, and odd on the cocycles in the range that the label
-- of v has
pub record HasWayTo (mesh : Mesh) (lengths : List ℕ) (cocycles : ℕ → Chain) (sheet : Sheet) (x v : ℕ) : Type 0 where
  pub over : List ℕ
  pub runs : IsGraphWalk (primal (cells_of mesh)) x over v
  pub size : graph_walk_length (primal (cells_of mesh)) (edge_length lengths) x over ≡ sheet.distance v
  pub odd : (i : ℕ) → IsInRange sheet i → is_way_odd mesh (cocycles i) x over ≡ sheet.label i v

-- the way to a vertex and back is as long as each walk in the range
abbrev pub IsFarOff : Mesh → List ℕ → List (List ℕ) → Sheet → ℕ → Type 0
IsFarOff mesh lengths walks sheet v = (i : ℕ) → IsInRange sheet i → i < length walks →
    walk_length mesh lengths (walk_at walks i) ≤ 2 * sheet.distance v

-- ---- rows

-- the sum of those of the first n rows whose numbers are in a set
abbrev pub sum_of_rows : (rows : ℕ → ℕ) → ℕ → ℕ → ℕ
sum_of_rows rows set zero = 0
sum_of_rows rows set (suc n) = if has set n then bit_xor (rows n) (sum_of_rows rows set n) else sum_of_rows rows set n

-- the sum of the rows whose numbers are in a set
abbrev pub image : List ℕ → ℕ → ℕ
image rows set = sum_of_rows (slice_index rows) set (length rows)

-- a set, to which another one is added where it has a number
abbrev pub moved : ℕ → ℕ → ℕ → ℕ
moved k other set = if has set k then bit_xor set other else set

-- There are as many rows as numbers that they are sets of. No set but the empty one has an empty image, and each of the
-- first n classes has an image with its own number and none that is greater.
pub record ArePairedRows (classes rows : List ℕ) (n : ℕ) : Type 0 where
  pub small : (k : ℕ) → k < length rows → slice_index rows k < 2 ^ length rows
  pub faithful : (x : ℕ) → x < 2 ^ length rows → image rows x ≡ 0 → x ≡ 0
  pub own : (i : ℕ) → i < n → has (image rows (slice_index classes i)) i ≡ true
  pub later : (i j : ℕ) → i < n → i < j → has (image rows (slice_index classes i)) j ≡ false

-- each row is the set of its own number
abbrev pub AreUnits : List ℕ → Type 0
AreUnits rows = (k : ℕ) → k < length rows → slice_index rows k ≡ 2 ^ k
