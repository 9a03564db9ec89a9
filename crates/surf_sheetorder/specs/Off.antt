-- Sheets that leave out vertices, and where a place comes first among closed walks.
use Rattle.std.specs.Prelude.{◌≡◌, ℕ, ◌+◌, ◌<◌, ◌≤◌, ◌⊎◌, Bool, true, false, IsTrue, List, length, Contains}
use Rattle.surf_z2.specs.Space.{Chain}
use Rattle.surf_surfaces.specs.Mesh.{Mesh}
use Rattle.surf_surfaces.specs.Surface.{edge_count, ends}
use Rattle.surf_surfaces.specs.Walk.{IsClosed, edge_length}
use Rattle.surf_surfaces.specs.FewBases.{Place, is_no_later}
use Rattle.surf_sheets.specs.Sheets.{is_odd_on, walk_at, IsInRange, is_crossed, Serves}
use Rattle.surf_sheets.specs.Placed.{place_of_walk, PlacedSheet, NoneRises, IsPastPlace}

-- ---- what is to be shown

-- the place of the walk with a number
abbrev pub place_at_number : Mesh → List ℕ → List (List ℕ) → ℕ → Place
place_at_number mesh lengths walks i = place_of_walk mesh lengths (walk_at walks i)

-- no closed walk that is odd on the set of edges comes sooner than the place
abbrev pub ComesFirst : Mesh → List ℕ → Chain → Place → Type 0
ComesFirst mesh lengths set place = (walk : List ℕ) → IsClosed mesh walk → is_odd_on mesh set walk ≡ true →
    IsTrue (is_no_later place (place_of_walk mesh lengths walk))

-- no such walk over the vertex does
abbrev pub ComesFirstAt : Mesh → List ℕ → Chain → Place → ℕ → Type 0
ComesFirstAt mesh lengths set place x = (walk : List ℕ) → IsClosed mesh walk → Contains walk x →
    is_odd_on mesh set walk ≡ true → IsTrue (is_no_later place (place_of_walk mesh lengths walk))

-- ---- sheets that leave out vertices

-- a sheet with bounds for the least vertices, and the vertices that it leaves out
pub record OffSheet : Type 0 where
  pub placed : PlacedSheet
  pub off : ℕ → Bool

-- neither end of the edge is left out
pub record IsClear (mesh : Mesh) (off : ℕ → Bool) (e : ℕ) : Type 0 where
  pub one : off (ends mesh e).0 ≡ false
  pub other : off (ends mesh e).1 ≡ false

-- a placed sheet, as far as vertices and the ends of edges are not left out
pub record IsPlacedSheetOff (mesh : Mesh) (lengths : List ℕ) (walks : List (List ℕ)) (cocycles : ℕ → Chain)
    (s : OffSheet) : Type 0 where
  pub slack : (e : ℕ) → e < edge_count mesh → IsClear mesh s.off e →
      (s.placed.sheet.distance (ends mesh e).0 ≤ s.placed.sheet.distance (ends mesh e).1 + edge_length lengths e)
      × (s.placed.sheet.distance (ends mesh e).1 ≤ s.placed.sheet.distance (ends mesh e).0 + edge_length lengths e)
  pub own : (v : ℕ) → v < mesh.vertices → s.off v ≡ false → s.placed.least v ≤ v
  pub before : (e : ℕ) → e < edge_count mesh → IsClear mesh s.off e →
      NoneRises mesh lengths s.placed.sheet.distance s.placed.least e
  pub past : (i e : ℕ) → IsInRange s.placed.sheet i → i < length walks → e < edge_count mesh →
      IsClear mesh s.off e → is_crossed mesh (cocycles i) (s.placed.sheet.label i) e ≡ true →
      IsPastPlace mesh lengths s.placed (place_at_number mesh lengths walks i) e

-- ---- sheets in an order

-- one of the first sheets, up to a number, serves the vertex for i
abbrev pub IsServedBefore : (ℕ → OffSheet) → ℕ → ℕ → ℕ → Type 0
IsServedBefore sheets t i x = (r : ℕ) × (r < t) × Serves (sheets r).placed.sheet i x

-- each vertex that one of the sheets leaves out is served by sheets before it, for all of its range
abbrev pub AreInOrder : Mesh → (ℕ → OffSheet) → ℕ → Type 0
AreInOrder mesh sheets count = (t x i : ℕ) → t < count → x < mesh.vertices → (sheets t).off x ≡ true →
    IsInRange (sheets t).placed.sheet i → IsServedBefore sheets t i x

-- each edge of a set has an end that one of the sheets serves for i
abbrev pub IsServedBySome : Mesh → (ℕ → OffSheet) → ℕ → ℕ → Chain → Type 0
IsServedBySome mesh sheets count i set = (e : ℕ) → e < edge_count mesh → set e ≡ true →
    IsServedBefore sheets count i (ends mesh e).0 ⊎ IsServedBefore sheets count i (ends mesh e).1
