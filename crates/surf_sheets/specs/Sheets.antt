-- Closed walks with cocycles that tell them apart, and sheets, which show that no closed walk odd on a cocycle is short.
use Rattle.std.specs.Prelude.{◌≡◌, ℕ, ◌+◌, ◌*◌, ◌<◌, ◌≤◌, ◌⊎◌, Bool, true, false, List, [], length, map, All}
use Rattle.std.specs.Prelude.{Contains, slice_index_or}
use Rattle.surf_z2.specs.Parity.{xor, odd}
use Rattle.surf_z2.specs.Space.{Chain}
use Rattle.surf_surfaces.specs.Mesh.{Mesh, steps, sides}
use Rattle.surf_surfaces.specs.Surface.{face_count, edge_count, face_at, ends}
use Rattle.surf_surfaces.specs.Walk.{IsClosed, edge_length, edge_number, walk_length}
use Rattle.surf_surfaces.specs.Homology.{IsLoopCount}

-- ---- cocycles

-- whether an odd number of the sides of a face are in a set of edges
abbrev pub has_odd_sides_in : Mesh → Chain → ℕ → Bool
has_odd_sides_in mesh set f = odd (map (λ s. set (edge_number mesh s)) (sides (face_at mesh f)))

-- a cocycle: a set of edges that has an even number of the sides of each face
abbrev pub IsCocycle : Mesh → Chain → Type 0
IsCocycle mesh set = (f : ℕ) → f < face_count mesh → has_odd_sides_in mesh set f ≡ false

-- whether a walk is odd on a set of edges: an odd number of its steps are along them
abbrev pub is_odd_on : Mesh → Chain → List ℕ → Bool
is_odd_on mesh set walk = odd (map (λ s. set (edge_number mesh s)) (steps walk))

-- the walk with a number
abbrev pub walk_at : List (List ℕ) → ℕ → List ℕ
walk_at walks i = slice_index_or walks i []

-- each walk is odd on the cocycle with its number, and on none with a greater one
pub record ArePaired (mesh : Mesh) (walks : List (List ℕ)) (cocycles : ℕ → Chain) : Type 0 where
  pub own : (i : ℕ) → i < length walks → is_odd_on mesh (cocycles i) (walk_at walks i) ≡ true
  pub later : (i j : ℕ) → i < j → j < length walks → is_odd_on mesh (cocycles j) (walk_at walks i) ≡ false

-- no walk is longer than one with a greater number
abbrev pub AreByLength : Mesh → List ℕ → List (List ℕ) → Type 0
AreByLength mesh lengths walks = (i j : ℕ) → i < j → j < length walks →
    walk_length mesh lengths (walk_at walks i) ≤ walk_length mesh lengths (walk_at walks j)

-- ---- sheets

-- a sheet over the surface: for the numbers from `from` on that are below `to`, how far each vertex is from a part of
-- the surface, and on which of two sheets over it, for each number
pub record Sheet : Type 0 where
  pub from : ℕ
  pub to : ℕ
  pub margin : ℕ
  pub distance : ℕ → ℕ
  pub label : ℕ → ℕ → Bool

-- whether a number is in its range
abbrev pub IsInRange : Sheet → ℕ → Type 0
IsInRange sheet i = (sheet.from ≤ i) × (i < sheet.to)

-- whether the labels of the ends of an edge differ, where it isn't in the set, or don't, where it is
abbrev pub is_crossed : Mesh → Chain → (ℕ → Bool) → ℕ → Bool
is_crossed mesh set label e = xor (xor (label (ends mesh e).0) (label (ends mesh e).1)) (set e)

-- the way over an edge: from the part to an end of it, along it, and back from its other end
abbrev pub way_over : Mesh → List ℕ → (ℕ → ℕ) → ℕ → ℕ
way_over mesh lengths distance e = distance (ends mesh e).0 + edge_length lengths e + distance (ends mesh e).1

-- the distances of the ends of each edge differ by no more than its length
abbrev pub HasNoShortCut : Mesh → List ℕ → (ℕ → ℕ) → Type 0
HasNoShortCut mesh lengths distance = (e : ℕ) → e < edge_count mesh →
    (distance (ends mesh e).0 ≤ distance (ends mesh e).1 + edge_length lengths e)
    × (distance (ends mesh e).1 ≤ distance (ends mesh e).0 + edge_length lengths e)

-- no edge is a short cut, and for each number of a walk in the range the way over an edge that is crossed is no shorter
-- than the walk with that number and the way across the margin and back
pub record IsSheet (mesh : Mesh) (lengths : List ℕ) (walks : List (List ℕ)) (cocycles : ℕ → Chain)
    (sheet : Sheet) : Type 0 where
  pub slack : HasNoShortCut mesh lengths sheet.distance
  pub long : (i e : ℕ) → IsInRange sheet i → i < length walks → e < edge_count mesh →
      is_crossed mesh (cocycles i) (sheet.label i) e ≡ true →
      walk_length mesh lengths (walk_at walks i) + 2 * sheet.margin ≤ way_over mesh lengths sheet.distance e

-- the sheet serves a vertex for a number: it is in the range, and the vertex within the margin
pub record Serves (sheet : Sheet) (i x : ℕ) : Type 0 where
  pub in_range : IsInRange sheet i
  pub near : sheet.distance x ≤ sheet.margin

-- some sheet does
abbrev pub IsServed : List Sheet → ℕ → ℕ → Type 0
IsServed sheets i x = (sheet : Sheet) × Contains sheets sheet × Serves sheet i x

-- for each number, each edge of its cocycle has an end that is served for it
abbrev pub AreServed : Mesh → List (List ℕ) → (ℕ → Chain) → List Sheet → Type 0
AreServed mesh walks cocycles sheets = (i e : ℕ) → i < length walks → e < edge_count mesh → cocycles i e ≡ true →
    IsServed sheets i (ends mesh e).0 ⊎ IsServed sheets i (ends mesh e).1

-- ---- walks that are shown to be a least basis

-- as many closed walks as 2 − χ, in the order of length, with cocycles that are paired with them, and sheets that serve
pub record AreShown (mesh : Mesh) (lengths : List ℕ) (walks : List (List ℕ)) (cocycles : ℕ → Chain)
    (sheets : List Sheet) : Type 0 where
  pub closed : All (IsClosed mesh) walks
  pub count : IsLoopCount mesh (length walks)
  pub by_length : AreByLength mesh lengths walks
  pub are_cocycles : (i : ℕ) → i < length walks → IsCocycle mesh (cocycles i)
  pub paired : ArePaired mesh walks cocycles
  pub are_sheets : All (IsSheet mesh lengths walks cocycles) sheets
  pub served : AreServed mesh walks cocycles sheets
