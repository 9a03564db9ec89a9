-- What cocycles and sheets show.
use Rattle.std.specs.Prelude.{◌≡◌, ℕ, ◌<◌, ◌≤◌, ◌&&◌, true, false, IsTrue, List, length, map}
use Rattle.surf_z2.specs.Parity.{odd_below}
use Rattle.surf_z2.specs.Space.{Chain}
use Rattle.surf_surfaces.specs.Mesh.{Mesh}
use Rattle.surf_surfaces.specs.Surface.{face_count, edge_count, borders, IsSurface}
use Rattle.surf_surfaces.specs.Walk.{IsClosed, walk_length, ArePositive}
use Rattle.surf_surfaces.specs.Homology.{IsNull, IsLeastBasis}
use Rattle.surf_surfaces.specs.Places.{IsLeastBasisInOrder}
use Rattle.surf_surfaces.specs.Choice.{Trees, AreChosen, Loop, walks, IsChosenBasis}
use Rattle.surf_surfaces.specs.FewBases.{Place, is_no_later, place_of_loop}
use Rattle.surf_sheets.specs.Sheets.{has_odd_sides_in, IsCocycle, is_odd_on, walk_at, AreByLength, Sheet, AreShown}
use Rattle.surf_sheets.specs.Placed.{place_of_walk, PlacedSheet, sheets_of, IsPastPlace, ArePlaced}

-- Of the sides of a face as many are in a set, up to an even number, as of the edges that border it.
abbrev pub SidesAreBorderEdges : Type 0
SidesAreBorderEdges =
    (mesh : Mesh) (set : Chain) (f : ℕ) → IsSurface mesh → f < face_count mesh →
    has_odd_sides_in mesh set f ≡ odd_below (edge_count mesh) (λ e. borders mesh f e && set e)

-- A closed walk that is null is odd on no cocycle.
abbrev pub NullWalksAreEvenOnCocycles : Type 0
NullWalksAreEvenOnCocycles =
    (mesh : Mesh) (set : Chain) (walk : List ℕ) → IsSurface mesh → IsCocycle mesh set → IsClosed mesh walk →
    IsNull mesh walk → is_odd_on mesh set walk ≡ false

-- A closed walk that is odd on the cocycle with a number is no shorter than the walk with that
-- number, where sheets serve.
abbrev pub OddWalksAreNoShorter : Type 0
OddWalksAreNoShorter =
    (mesh : Mesh) (lengths : List ℕ) (walks : List (List ℕ)) (cocycles : ℕ → Chain) (sheets : List Sheet) →
    IsSurface mesh → AreShown mesh lengths walks cocycles sheets → (i : ℕ) → i < length walks → (walk : List ℕ) →
    IsClosed mesh walk → is_odd_on mesh (cocycles i) walk ≡ true →
    walk_length mesh lengths (walk_at walks i) ≤ walk_length mesh lengths walk

-- Walks that are shown by cocycles and sheets are a least basis.
abbrev pub ShownWalksAreLeast : Type 0
ShownWalksAreLeast =
    (mesh : Mesh) (lengths : List ℕ) (walks : List (List ℕ)) (cocycles : ℕ → Chain) (sheets : List Sheet) →
    IsSurface mesh → ArePositive mesh lengths → AreShown mesh lengths walks cocycles sheets →
    IsLeastBasis mesh lengths walks

-- Walks that are shown by cocycles and sheets are a least basis place by place.
abbrev pub ShownWalksAreLeastInOrder : Type 0
ShownWalksAreLeastInOrder =
    (mesh : Mesh) (lengths : List ℕ) (walks : List (List ℕ)) (cocycles : ℕ → Chain) (sheets : List Sheet) →
    IsSurface mesh → ArePositive mesh lengths → AreShown mesh lengths walks cocycles sheets →
    IsLeastBasisInOrder mesh lengths walks

-- ---- the tie rule

-- Where the way over an edge is past a place it is past each that comes no later.
abbrev pub EarlierPlacesArePast : Type 0
EarlierPlacesArePast =
    (mesh : Mesh) (lengths : List ℕ) (s : PlacedSheet) (p q : Place) (e : ℕ) → IsTrue (is_no_later p q) →
    IsPastPlace mesh lengths s q e → IsPastPlace mesh lengths s p e

-- Walks that are shown with their places are shown by the sheets without the bounds.
abbrev pub PlacedWalksAreShown : Type 0
PlacedWalksAreShown =
    (mesh : Mesh) (lengths : List ℕ) (walks : List (List ℕ)) (cocycles : ℕ → Chain) (sheets : List PlacedSheet) →
    ArePlaced mesh lengths walks cocycles sheets → AreShown mesh lengths walks cocycles (sheets_of sheets)

-- A closed walk that is odd on the cocycle with a number comes no sooner than the walk with that
-- number, wherever it begins.
abbrev pub OddWalksComeNoSooner : Type 0
OddWalksComeNoSooner =
    (mesh : Mesh) (lengths : List ℕ) (walks : List (List ℕ)) (cocycles : ℕ → Chain) (sheets : List PlacedSheet) →
    IsSurface mesh → ArePlaced mesh lengths walks cocycles sheets → (i : ℕ) → i < length walks → (walk : List ℕ) →
    IsClosed mesh walk → is_odd_on mesh (cocycles i) walk ≡ true →
    IsTrue (is_no_later (place_of_walk mesh lengths (walk_at walks i)) (place_of_walk mesh lengths walk))

-- Walks that are shown with their places have the places of the chosen basis, one by one.
abbrev pub PlacedWalksHavePlacesOfBasis : Type 0
PlacedWalksHavePlacesOfBasis =
    (mesh : Mesh) (lengths : List ℕ) (walks : List (List ℕ)) (cocycles : ℕ → Chain) (sheets : List PlacedSheet)
    (trees : ℕ → Trees) (basis : List Loop) → IsSurface mesh → ArePositive mesh lengths →
    ArePlaced mesh lengths walks cocycles sheets → AreChosen mesh lengths trees →
    IsChosenBasis mesh lengths trees basis → map (place_of_walk mesh lengths) walks ≡ map place_of_loop basis

-- ---- there are sheets

-- Each least basis in the order of length is shown by some cocycles and sheets.
abbrev pub LeastBasesAreShown : Type 0
LeastBasesAreShown =
    (mesh : Mesh) (lengths : List ℕ) (walks : List (List ℕ)) → IsSurface mesh → ArePositive mesh lengths →
    IsLeastBasis mesh lengths walks → AreByLength mesh lengths walks →
    (cocycles : ℕ → Chain) × (sheets : List Sheet) × AreShown mesh lengths walks cocycles sheets

-- The chosen basis is shown with its places by some cocycles and sheets.
abbrev pub ChosenBasesArePlaced : Type 0
ChosenBasesArePlaced =
    (mesh : Mesh) (lengths : List ℕ) (trees : ℕ → Trees) (basis : List Loop) → IsSurface mesh →
    ArePositive mesh lengths → AreChosen mesh lengths trees → IsChosenBasis mesh lengths trees basis →
    (cocycles : ℕ → Chain) × (sheets : List PlacedSheet) × ArePlaced mesh lengths (walks basis) cocycles sheets
