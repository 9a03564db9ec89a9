-- Sheets that show the bases of walks too: among closed walks of one length, the least vertices that they meet.
use Rattle.std.specs.Prelude.{◌≡◌, ℕ, ◌+◌, ◌*◌, ◌<◌, ◌≤◌, ◌⊎◌, true, IsTrue, List, length, map, All}
use Rattle.surf_z2.specs.Space.{Chain}
use Rattle.surf_surfaces.specs.Mesh.{Mesh}
use Rattle.surf_surfaces.specs.Surface.{edge_count, ends}
use Rattle.surf_surfaces.specs.Walk.{IsClosed, first, edge_length, walk_length}
use Rattle.surf_surfaces.specs.Homology.{IsLoopCount}
use Rattle.surf_surfaces.specs.FewBases.{Place, is_no_later}
use Rattle.surf_sheets.specs.Sheets.{IsCocycle, walk_at, ArePaired, Sheet, IsInRange, is_crossed, way_over, HasNoShortCut}
use Rattle.surf_sheets.specs.Sheets.{AreServed}

-- the place of a closed walk in the order of length and base: its length, and the vertex at which it begins
abbrev pub place_of_walk : Mesh → List ℕ → List ℕ → Place
place_of_walk mesh lengths walk = (walk_length mesh lengths walk, first walk)

-- no walk comes later than one with a greater number
abbrev pub AreByPlace : Mesh → List ℕ → List (List ℕ) → Type 0
AreByPlace mesh lengths walks = (i j : ℕ) → i < j → j < length walks →
    IsTrue (is_no_later (place_of_walk mesh lengths (walk_at walks i)) (place_of_walk mesh lengths (walk_at walks j)))

-- a sheet, with a bound for the least vertex on the shortest ways from the part to each vertex
pub record PlacedSheet : Type 0 where
  pub sheet : Sheet
  pub least : ℕ → ℕ

-- the sheets alone
abbrev pub sheets_of : List PlacedSheet → List Sheet
sheets_of sheets = map (λ s. s.sheet) sheets

-- along an edge by the whole length of which the distance rises, the bound doesn't rise
pub record NoneRises (mesh : Mesh) (lengths : List ℕ) (distance least : ℕ → ℕ) (e : ℕ) : Type 0 where
  pub there : distance (ends mesh e).1 ≡ distance (ends mesh e).0 + edge_length lengths e →
      least (ends mesh e).1 ≤ least (ends mesh e).0
  pub back : distance (ends mesh e).0 ≡ distance (ends mesh e).1 + edge_length lengths e →
      least (ends mesh e).0 ≤ least (ends mesh e).1

-- the way over an edge is as long as a place says, there is no margin, and the bounds of the ends of the edge are no
-- less than the vertex of the place
pub record IsAtPlace (mesh : Mesh) (lengths : List ℕ) (s : PlacedSheet) (place : Place) (e : ℕ) : Type 0 where
  pub no_margin : s.sheet.margin ≡ 0
  pub as_long : way_over mesh lengths s.sheet.distance e ≡ place.0
  pub one_end : place.1 ≤ s.least (ends mesh e).0
  pub other_end : place.1 ≤ s.least (ends mesh e).1

-- the way over an edge is longer than a place says, by more than the way across the margin and back, or at the place
abbrev pub IsPastPlace : Mesh → List ℕ → PlacedSheet → Place → ℕ → Type 0
IsPastPlace mesh lengths s place e =
    (place.0 + 2 * s.sheet.margin < way_over mesh lengths s.sheet.distance e) ⊎ IsAtPlace mesh lengths s place e

-- no edge is a short cut, the bounds are bounds, and for each number of a walk in the range the way over an edge that is
-- crossed is past the place of the walk with that number
pub record IsPlacedSheet (mesh : Mesh) (lengths : List ℕ) (walks : List (List ℕ)) (cocycles : ℕ → Chain)
    (s : PlacedSheet) : Type 0 where
  pub slack : HasNoShortCut mesh lengths s.sheet.distance
  pub own : (v : ℕ) → v < mesh.vertices → s.least v ≤ v
  pub before : (e : ℕ) → e < edge_count mesh → NoneRises mesh lengths s.sheet.distance s.least e
  pub past : (i e : ℕ) → IsInRange s.sheet i → i < length walks → e < edge_count mesh →
      is_crossed mesh (cocycles i) (s.sheet.label i) e ≡ true →
      IsPastPlace mesh lengths s (place_of_walk mesh lengths (walk_at walks i)) e

-- as many closed walks as 2 − χ, in the order of length and base, with cocycles that are paired with them, and such
-- sheets that serve
pub record ArePlaced (mesh : Mesh) (lengths : List ℕ) (walks : List (List ℕ)) (cocycles : ℕ → Chain)
    (sheets : List PlacedSheet) : Type 0 where
  pub closed : All (IsClosed mesh) walks
  pub count : IsLoopCount mesh (length walks)
  pub by_place : AreByPlace mesh lengths walks
  pub are_cocycles : (i : ℕ) → i < length walks → IsCocycle mesh (cocycles i)
  pub paired : ArePaired mesh walks cocycles
  pub are_sheets : All (IsPlacedSheet mesh lengths walks cocycles) sheets
  pub served : AreServed mesh walks cocycles (sheets_of sheets)
