-- What sheets show that leave out vertices, in an order and in rounds, and how a search is such a sheet.
use Rattle.std.specs.Prelude.{◌≡◌, ◌≢◌, ℕ, ◌<◌, ◌≤◌, ◌⊎◌, Bool, true, false, bit_xor, IsTrue, List, length, map, All}
use Rattle.surf_z2.specs.Space.{Chain, Spanned, chosen, numbers, sum_of}
use Rattle.surf_z2.specs.Sieve.{has}
use Rattle.surf_graphs.specs.Cells.{Split, IsSplit}
use Rattle.surf_graphs.specs.Trees.{Tree}
use Rattle.surf_surfaces.specs.Mesh.{Mesh}
use Rattle.surf_surfaces.specs.Surface.{edge_count, ends, IsSurface}
use Rattle.surf_surfaces.specs.Walk.{IsClosed, ArePositive}
use Rattle.surf_surfaces.specs.Homology.{IsNull, IsBasis, IsLoopCount}
use Rattle.surf_surfaces.specs.Cells.{cells_of}
use Rattle.surf_surfaces.specs.Class.{class_of, AreShortestTrees}
use Rattle.surf_surfaces.specs.Loop.{loop_walk}
use Rattle.surf_surfaces.specs.Signature.{edge_signature}
use Rattle.surf_surfaces.specs.Choice.{Trees, AreChosen, Loop, IsChosenBasis}
use Rattle.surf_surfaces.specs.FewBases.{Place, is_no_later, place_at, place_of_loop}
use Rattle.surf_sheets.specs.Sheets.{IsCocycle, is_odd_on, walk_at, IsInRange}
use Rattle.surf_sheets.specs.Placed.{place_of_walk, AreByPlace}
use Rattle.surf_sheetorder.specs.Off.{place_at_number, ComesFirst, ComesFirstAt, OffSheet, IsClear, IsPlacedSheetOff}
use Rattle.surf_sheetorder.specs.Off.{IsServedBefore, AreInOrder, IsServedBySome}
use Rattle.surf_sheetorder.specs.Rounds.{AreAlike, AreClaimed, AreFirst, Round, AreShownByRounds}
use Rattle.surf_sheetorder.specs.Searches.{IsLinear, edges_passing, AgreeWhereClear, sheet_of_search, IsLoopPast}
use Rattle.surf_sheetorder.specs.Searches.{ListedLoop, AreListed}
use Rattle.surf_sheetorder.specs.Needs.{classes_of, place_in, AreClaimedLoops, TellsNeed, NoneNeedsSooner, NoneNeedsSoonerAt}
use Rattle.surf_sheetorder.specs.Needs.{IsSumOfFirst, IsPastNeed, IsSearchOff}

-- ---- sheets in an order

-- Let a sheet leave out only vertices at which the place of the walk with a number comes first
-- already. Then this place comes first at the vertices within the margin of the sheet too.
abbrev pub SheetsShowMore : Type 0
SheetsShowMore =
    (mesh : Mesh) (lengths : List ℕ) (walks : List (List ℕ)) (cocycles : ℕ → Chain) (s : OffSheet) → IsSurface mesh →
    IsPlacedSheetOff mesh lengths walks cocycles s → (i : ℕ) → IsInRange s.placed.sheet i → i < length walks →
    ((y : ℕ) → y < mesh.vertices → s.off y ≡ true →
    ComesFirstAt mesh lengths (cocycles i) (place_at_number mesh lengths walks i) y) →
    (x : ℕ) → s.placed.sheet.distance x ≤ s.placed.sheet.margin →
    ComesFirstAt mesh lengths (cocycles i) (place_at_number mesh lengths walks i) x

-- Let each vertex that a sheet leaves out be served by sheets before it, for all of its range. Then
-- the place of the walk with a number comes first at each vertex that is served for that number.
abbrev pub OrderedSheetsShow : Type 0
OrderedSheetsShow =
    (mesh : Mesh) (lengths : List ℕ) (walks : List (List ℕ)) (cocycles : ℕ → Chain) (sheets : ℕ → OffSheet)
    (count : ℕ) → IsSurface mesh →
    ((t : ℕ) → t < count → IsPlacedSheetOff mesh lengths walks cocycles (sheets t)) →
    AreInOrder mesh sheets count → (i x : ℕ) → i < length walks → IsServedBefore sheets count i x →
    ComesFirstAt mesh lengths (cocycles i) (place_at_number mesh lengths walks i) x

-- A place that comes first at an end of each edge of a set comes first among all closed walks that
-- are odd on the set.
abbrev pub ServedSetsShow : Type 0
ServedSetsShow =
    (mesh : Mesh) (lengths : List ℕ) (set : Chain) (place : Place) → IsSurface mesh →
    ((e : ℕ) → e < edge_count mesh → set e ≡ true →
    ComesFirstAt mesh lengths set place (ends mesh e).0 ⊎ ComesFirstAt mesh lengths set place (ends mesh e).1) →
    ComesFirst mesh lengths set place

-- Where sheets in such an order serve an end of each edge of a cocycle for its number, no closed
-- walk that is odd on it comes sooner than the walk with that number.
abbrev pub OrderedSheetsComeFirst : Type 0
OrderedSheetsComeFirst =
    (mesh : Mesh) (lengths : List ℕ) (walks : List (List ℕ)) (cocycles : ℕ → Chain) (sheets : ℕ → OffSheet)
    (count : ℕ) → IsSurface mesh →
    ((t : ℕ) → t < count → IsPlacedSheetOff mesh lengths walks cocycles (sheets t)) →
    AreInOrder mesh sheets count → (i : ℕ) → i < length walks → IsServedBySome mesh sheets count i (cocycles i) →
    ComesFirst mesh lengths (cocycles i) (place_at_number mesh lengths walks i)

-- ---- rounds

-- A closed walk is odd on a set of edges exactly where it is odd on one that is alike.
abbrev pub AlikeSetsAreOddAlike : Type 0
AlikeSetsAreOddAlike =
    (mesh : Mesh) (set other : Chain) (walk : List ℕ) → IsSurface mesh → AreAlike mesh set other →
    IsClosed mesh walk → is_odd_on mesh other walk ≡ is_odd_on mesh set walk

-- Closed walks with cocycles that are paired with them, each of whose places comes first among the
-- closed walks that are odd on its cocycle, have the places of the chosen basis, one by one.
abbrev pub FirstWalksHavePlacesOfBasis : Type 0
FirstWalksHavePlacesOfBasis =
    (mesh : Mesh) (lengths : List ℕ) (walks : List (List ℕ)) (cocycles : ℕ → Chain) (trees : ℕ → Trees)
    (basis : List Loop) → IsSurface mesh → ArePositive mesh lengths → AreFirst mesh lengths walks cocycles →
    AreChosen mesh lengths trees → IsChosenBasis mesh lengths trees basis →
    map (place_of_walk mesh lengths) walks ≡ map place_of_loop basis

-- Let each number belong to a round, whose cocycles are alike to those of the walks, and whose
-- sheets stand in such an order and serve an end of each edge of its cocycles. Then the place of
-- each walk comes first among the closed walks that are odd on its cocycle.
abbrev pub RoundsShowFirst : Type 0
RoundsShowFirst =
    (mesh : Mesh) (lengths : List ℕ) (walks : List (List ℕ)) (cocycles : ℕ → Chain) (rounds : List Round) →
    IsSurface mesh → AreShownByRounds mesh lengths walks cocycles rounds → AreFirst mesh lengths walks cocycles

-- Walks that are shown by such rounds have the places of the chosen basis, one by one.
abbrev pub RoundsHavePlacesOfBasis : Type 0
RoundsHavePlacesOfBasis =
    (mesh : Mesh) (lengths : List ℕ) (walks : List (List ℕ)) (cocycles : ℕ → Chain) (rounds : List Round)
    (trees : ℕ → Trees) (basis : List Loop) → IsSurface mesh → ArePositive mesh lengths →
    AreShownByRounds mesh lengths walks cocycles rounds → AreChosen mesh lengths trees →
    IsChosenBasis mesh lengths trees basis → map (place_of_walk mesh lengths) walks ≡ map place_of_loop basis

-- ---- searches

-- The edges whose signatures pass a linear test are a cocycle. A closed walk is odd on it exactly
-- where its class passes the test.
abbrev pub TestsAreCocycles : Type 0
TestsAreCocycles =
    (mesh : Mesh) (d : Split) (test : ℕ → Bool) → IsSurface mesh → IsSplit (cells_of mesh) d → IsLinear test →
    IsCocycle mesh (edges_passing mesh d test)
    × ((walk : List ℕ) → IsClosed mesh walk →
    is_odd_on mesh (edges_passing mesh d test) walk ≡ test (class_of mesh d walk))

-- As many closed walks as 2 − χ, in the order of length and base, have cocycles that are paired
-- with them by linear tests of signatures, if the class of each walk passes its own test and no
-- later one.
abbrev pub TestsPairWalks : Type 0
TestsPairWalks =
    (mesh : Mesh) (d : Split) (lengths : List ℕ) (walks : List (List ℕ)) (tests : ℕ → ℕ → Bool) → IsSurface mesh →
    IsSplit (cells_of mesh) d → ((i : ℕ) → IsLinear (tests i)) → All (IsClosed mesh) walks →
    IsLoopCount mesh (length walks) → AreByPlace mesh lengths walks →
    ((i : ℕ) → i < length walks → tests i (class_of mesh d (walk_at walks i)) ≡ true) →
    ((i j : ℕ) → i < j → j < length walks → tests j (class_of mesh d (walk_at walks i)) ≡ false) →
    AreClaimed mesh lengths walks (λ i. edges_passing mesh d (tests i))

-- A basis has linear tests of which the class of each walk passes its own alone.
abbrev pub BasesHaveTests : Type 0
BasesHaveTests =
    (mesh : Mesh) (d : Split) (walks : List (List ℕ)) → IsSurface mesh → IsSplit (cells_of mesh) d → IsBasis mesh walks →
    (tests : ℕ → ℕ → Bool) × ((i : ℕ) → IsLinear (tests i))
    × ((i : ℕ) → i < length walks → tests i (class_of mesh d (walk_at walks i)) ≡ true)
    × ((i j : ℕ) → i < length walks → j < length walks → i ≢ j → tests i (class_of mesh d (walk_at walks j)) ≡ false)

-- A class at each vertex may be added to the signatures of all edges there. If then a place comes
-- first at an end of each edge whose signature passes a linear test, it comes first among all
-- closed walks whose classes pass it.
abbrev pub LabelledEdgesShow : Type 0
LabelledEdgesShow =
    (mesh : Mesh) (d : Split) (lengths : List ℕ) (test : ℕ → Bool) (labels : ℕ → ℕ) (place : Place) → IsSurface mesh →
    IsLinear test →
    ((e : ℕ) → e < edge_count mesh →
    test (bit_xor (bit_xor (labels (ends mesh e).0) (labels (ends mesh e).1)) (edge_signature mesh d e)) ≡ true →
    ComesFirstAt mesh lengths (edges_passing mesh d test) place (ends mesh e).0
    ⊎ ComesFirstAt mesh lengths (edges_passing mesh d test) place (ends mesh e).1) →
    ComesFirst mesh lengths (edges_passing mesh d test) place

-- Let a place come first among the closed walks whose signatures have a number, for each number of
-- a left edge. Then no closed walk that isn't null comes sooner.
abbrev pub NonnullWalksComeNoSooner : Type 0
NonnullWalksComeNoSooner =
    (mesh : Mesh) (d : Split) (lengths : List ℕ) (place : Place) → IsSurface mesh → IsSplit (cells_of mesh) d →
    ((k : ℕ) → k < length d.left → ComesFirst mesh lengths (edges_passing mesh d (λ x. has x k)) place) →
    (walk : List ℕ) → IsClosed mesh walk → (IsNull mesh walk → ⊥) →
    IsTrue (is_no_later place (place_of_walk mesh lengths walk))

-- A sum of classes that don't pass a linear test doesn't pass it. So what is a sum of the classes of
-- the first walks passes the tests of these alone.
abbrev pub SumsPassNone : Type 0
SumsPassNone =
    (test : ℕ → Bool) (rows : List ℕ) (class : ℕ) → IsLinear test → All (λ row. test row ≡ false) rows →
    Spanned numbers rows class → test class ≡ false

-- Classes may be taken up to sums of some that don't pass a linear test: it stays the same.
abbrev pub SumsKeepTests : Type 0
SumsKeepTests =
    (test : ℕ → Bool) (rows : List ℕ) (choice : List Bool) (class : ℕ) → IsLinear test →
    All (λ row. test row ≡ false) rows → test (bit_xor class (sum_of numbers (chosen choice rows))) ≡ test class

-- A loop that is past a place is past each that comes no later.
abbrev pub LoopsPastLaterPlaces : Type 0
LoopsPastLaterPlaces =
    (margin : ℕ) (p q found : Place) → IsTrue (is_no_later p q) → IsLoopPast margin q found → IsLoopPast margin p found

-- A search may go by lengths that differ at edges with an end that is left out. It is a sheet for a
-- number if each loop at its base that is odd on the cocycle with the number is past the place of
-- the walk with it.
abbrev pub SearchesAreSheets : Type 0
SearchesAreSheets =
    (mesh : Mesh) (lengths other : List ℕ) (walks : List (List ℕ)) (cocycles : ℕ → Chain) (trees : ℕ → Tree)
    (off : ℕ → Bool) (z from to margin : ℕ) → IsSurface mesh → ArePositive mesh other →
    AreShortestTrees mesh other trees → AgreeWhereClear mesh off lengths other → z < mesh.vertices →
    ((i e : ℕ) → from ≤ i → i < to → i < length walks → e < edge_count mesh → IsClear mesh off e →
    is_odd_on mesh (cocycles i) (loop_walk mesh (trees z) e) ≡ true →
    IsLoopPast margin (place_at_number mesh lengths walks i) (place_at mesh other trees z e)) →
    IsPlacedSheetOff mesh lengths walks cocycles (sheet_of_search mesh cocycles trees off z from to margin)

-- A search that lists loops is a sheet for some numbers, with cocycles by linear tests of
-- signatures, if a listed loop is past the place of the walk with the number of each test that it
-- passes, and places that it doesn't seek are past all of them.
abbrev pub ListedLoopsShow : Type 0
ListedLoopsShow =
    (mesh : Mesh) (d : Split) (lengths other : List ℕ) (walks : List (List ℕ)) (tests : ℕ → ℕ → Bool)
    (trees : ℕ → Tree) (off : ℕ → Bool) (z from to margin : ℕ) (sought : Place → Bool) (listed : List ListedLoop) →
    IsSurface mesh → IsSplit (cells_of mesh) d → ((i : ℕ) → IsLinear (tests i)) → ArePositive mesh other →
    AreShortestTrees mesh other trees → AgreeWhereClear mesh off lengths other → z < mesh.vertices →
    AreListed mesh d other trees z tests from to sought listed →
    ((i : ℕ) → from ≤ i → i < to → i < length walks →
    All (λ found. tests i found.class ≡ true → IsLoopPast margin (place_at_number mesh lengths walks i) found.place)
    listed) →
    ((i : ℕ) (place : Place) → from ≤ i → i < to → i < length walks → sought place ≡ false →
    IsLoopPast margin (place_at_number mesh lengths walks i) place) →
    IsPlacedSheetOff mesh lengths walks (λ i. edges_passing mesh d (tests i))
    (sheet_of_search mesh (λ i. edges_passing mesh d (tests i)) trees off z from to margin)

-- Let the place of the walk with each of some numbers come first at the vertices that such a search
-- leaves out. Then it comes first at the vertices within the margin of its base too.
abbrev pub SearchesShowMore : Type 0
SearchesShowMore =
    (mesh : Mesh) (d : Split) (lengths other : List ℕ) (walks : List (List ℕ)) (tests : ℕ → ℕ → Bool)
    (trees : ℕ → Tree) (off : ℕ → Bool) (z from to margin : ℕ) (sought : Place → Bool) (listed : List ListedLoop) →
    IsSurface mesh → IsSplit (cells_of mesh) d → ((i : ℕ) → IsLinear (tests i)) → ArePositive mesh other →
    AreShortestTrees mesh other trees → AgreeWhereClear mesh off lengths other → z < mesh.vertices →
    AreListed mesh d other trees z tests from to sought listed →
    ((i : ℕ) → from ≤ i → i < to → i < length walks →
    All (λ found. tests i found.class ≡ true → IsLoopPast margin (place_at_number mesh lengths walks i) found.place)
    listed) →
    ((i : ℕ) (place : Place) → from ≤ i → i < to → i < length walks → sought place ≡ false →
    IsLoopPast margin (place_at_number mesh lengths walks i) place) →
    (i : ℕ) → from ≤ i → i < to → i < length walks →
    ((y : ℕ) → y < mesh.vertices → off y ≡ true →
    ComesFirstAt mesh lengths (edges_passing mesh d (tests i)) (place_at_number mesh lengths walks i) y) →
    (x : ℕ) → (trees z).rank x ≤ margin →
    ComesFirstAt mesh lengths (edges_passing mesh d (tests i)) (place_at_number mesh lengths walks i) x

-- ---- what closed walks need

-- A class that is a sum of the first of some loops needs these alone.
abbrev pub SumsNeedFirst : Type 0
SumsNeedFirst =
    (loops : List ListedLoop) (i n class : ℕ) (test : ℕ → Bool) → TellsNeed (classes_of loops) i test →
    IsSumOfFirst loops n class → test class ≡ true → i < n

-- Let no closed walk over a vertex that a search leaves out, and that needs the loop with a number,
-- come sooner. If each loop that the search lists is a sum of loops before that one or is past its
-- place, and so is what isn't sought, then no such walk over a vertex within the margin comes
-- sooner.
abbrev pub SearchesShowNeeds : Type 0
SearchesShowNeeds =
    (mesh : Mesh) (d : Split) (lengths : List ℕ) (loops : List ListedLoop) (off : ℕ → Bool) (z margin i : ℕ)
    (sought : Place → Bool) (listed : List ListedLoop) (near : List ℕ) → IsSurface mesh → IsSplit (cells_of mesh) d →
    AreClaimedLoops mesh lengths d loops → i < length loops →
    IsSearchOff mesh lengths d off z sought listed margin near →
    All (IsPastNeed loops margin i) listed →
    ((place : Place) → sought place ≡ false → IsLoopPast margin (place_in loops i) place) →
    ((y : ℕ) → y < mesh.vertices → off y ≡ true → NoneNeedsSoonerAt mesh lengths d loops i y) →
    All (NoneNeedsSoonerAt mesh lengths d loops i) near

-- A class at each vertex may be added to the signatures of all edges there. Let each edge whose
-- class then is no sum of loops before the one with a number have an end over which no closed walk
-- that needs that one comes sooner. Then none comes sooner.
abbrev pub LabelledEdgesShowNeeds : Type 0
LabelledEdgesShowNeeds =
    (mesh : Mesh) (d : Split) (lengths : List ℕ) (loops : List ListedLoop) (labels : ℕ → ℕ) (i : ℕ) → IsSurface mesh →
    ((e : ℕ) → e < edge_count mesh →
    (n : ℕ) × IsSumOfFirst loops n
    (bit_xor (bit_xor (labels (ends mesh e).0) (labels (ends mesh e).1)) (edge_signature mesh d e))
    × (i < n → NoneNeedsSoonerAt mesh lengths d loops i (ends mesh e).0
    ⊎ NoneNeedsSoonerAt mesh lengths d loops i (ends mesh e).1)) →
    NoneNeedsSooner mesh lengths d loops i

-- Claimed loops of which none is needed by a closed walk that comes sooner have the places of the
-- chosen basis, one by one.
abbrev pub LoopsHavePlacesOfBasis : Type 0
LoopsHavePlacesOfBasis =
    (mesh : Mesh) (d : Split) (lengths : List ℕ) (loops : List ListedLoop) (trees : ℕ → Trees) (basis : List Loop) →
    IsSurface mesh → IsSplit (cells_of mesh) d → ArePositive mesh lengths → AreClaimedLoops mesh lengths d loops →
    ((i : ℕ) → i < length loops → NoneNeedsSooner mesh lengths d loops i) → AreChosen mesh lengths trees →
    IsChosenBasis mesh lengths trees basis → map (λ c. c.place) loops ≡ map place_of_loop basis
