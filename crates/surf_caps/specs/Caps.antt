-- Caps: each vertex is searched for loops up to a place of its own. Where every closed walk that is no sum of shorter
-- ones goes over a vertex that is searched as far as its length, the loops that are found have the places of the basis.
use Rattle.std.specs.Prelude.{◌≡◌, ℕ, zero, suc, ◌<◌, ◌≤◌, ◌⊎◌, Bool, true, false, IsTrue, ◌&&◌, ◌||◌, ◌==◌, nat_le}
use Rattle.std.specs.Prelude.{List, [], ◌++◌, length, map, filter, All, Contains, IsPermutation, slice_index, Option, Some, None}
use Rattle.std.specs.List.Sorted.{IsNonDecreasing}
use Rattle.surf_z2.specs.Order.{IsInOrder}
use Rattle.surf_graphs.specs.Cells.{Split, IsSplit}
use Rattle.surf_graphs.specs.Trees.{Tree}
use Rattle.surf_surfaces.specs.Mesh.{Mesh}
use Rattle.surf_surfaces.specs.Surface.{edge_count, ends, IsSurface}
use Rattle.surf_surfaces.specs.Walk.{first, IsClosed, edge_length, walk_length, ArePositive}
use Rattle.surf_surfaces.specs.Homology.{IsIndependent, IsLoopCount}
use Rattle.surf_surfaces.specs.Cells.{cells_of}
use Rattle.surf_surfaces.specs.Class.{AreShortestTrees}
use Rattle.surf_surfaces.specs.Choice.{Trees, AreChosen, Loop, DependsOn, IsChosenBasis}
use Rattle.surf_surfaces.specs.FewBases.{Place, place_at, Found, place_of_found, place_of_loop, IsWithin, walks_found}
use Rattle.surf_surfaces.specs.FewBases.{walks_within, IsFoundLoop, DependsAtPlace, HasFound, AreEnoughOf, AreFoundAt}
use Rattle.surf_surfaces.specs.FewBases.{MeetsAll, comes_no_later, IsFoundChoice, comes_sooner}
use Rattle.surf_firsts.specs.Near.{IsSoughtFromStart}
use Rattle.surf_caps.specs.Heights.{IsSumOfShorter, AreHeights, cycle_at}

-- ---- what is sought

-- which places are sought at each vertex
abbrev pub Sought : Type 0
Sought = ℕ → Place → Bool

-- with each place that is sought at a vertex all that come no later are
abbrev pub AreSoughtFromStart : Sought → Type 0
AreSoughtFromStart sought = (z : ℕ) → IsSoughtFromStart (sought z)

-- at the vertices of a set, what is no longer than the cap of the vertex
abbrev pub up_to_caps : (ℕ → Bool) → (ℕ → ℕ) → Sought
up_to_caps set cap z place = set z && nat_le place.0 (cap z)

-- what is no longer than a length
abbrev pub up_to_length : ℕ → Place → Bool
up_to_length most place = nat_le place.0 most

-- what is sought by either of two
abbrev pub either : Sought → Sought → Sought
either sought more z place = sought z place || more z place

-- at one vertex other places too
abbrev pub with_places : ℕ → (Place → Bool) → Sought → Sought
with_places z here sought y place = sought y place || ((y == z) && here place)

-- at each vertex what passes a test
abbrev pub everywhere : (Place → Bool) → Sought
everywhere target z place = target place

-- nothing
abbrev pub nothing : Sought
nothing z place = false

-- what is sought and passes a test
abbrev pub limited : (Place → Bool) → Sought → Sought
limited target sought z place = sought z place && target place

-- what passes both of two tests
abbrev pub both : (Place → Bool) → (Place → Bool) → Place → Bool
both target other place = target place && other place

-- Tests of places by a length, by an earlier place or by caps are sought from the start, and so are
-- tests made of them.
pub record StartLaw : Type 0 where
  pub lengths : (most : ℕ) → IsSoughtFromStart (up_to_length most)
  pub places : (limit : Place) → IsSoughtFromStart (comes_sooner limit)
  pub both : (target other : Place → Bool) → IsSoughtFromStart target → IsSoughtFromStart other →
      IsSoughtFromStart (both target other)
  pub caps : (set : ℕ → Bool) (cap : ℕ → ℕ) → AreSoughtFromStart (up_to_caps set cap)
  pub on_set : (set : ℕ → Bool) (target : Place → Bool) → IsSoughtFromStart target →
      AreSoughtFromStart (λ z place. set z && target place)
  pub everywhere : (target : Place → Bool) → IsSoughtFromStart target → AreSoughtFromStart (everywhere target)
  pub limited : (target : Place → Bool) (sought : Sought) → IsSoughtFromStart target → AreSoughtFromStart sought →
      AreSoughtFromStart (limited target sought)
  pub either : (sought more : Sought) → AreSoughtFromStart sought → AreSoughtFromStart more →
      AreSoughtFromStart (either sought more)
  pub with_places : (z : ℕ) (here : Place → Bool) (sought : Sought) → IsSoughtFromStart here →
      AreSoughtFromStart sought → AreSoughtFromStart (with_places z here sought)

-- ---- closed walks over the vertices that are searched

-- the length of a walk and its first vertex
abbrev pub place_of_walk : Mesh → List ℕ → List ℕ → Place
place_of_walk mesh lengths walk = (walk_length mesh lengths walk, first walk)

-- each closed walk whose place passes a test, and that is no sum of shorter ones, goes over a vertex where that place is
-- sought
abbrev pub MeetsUpTo : Mesh → List ℕ → (Place → Bool) → Sought → Type 0
MeetsUpTo mesh lengths target sought =
    (walk : List ℕ) → IsClosed mesh walk → IsTrue (target (place_of_walk mesh lengths walk)) →
    (IsSumOfShorter mesh lengths walk → ⊥) →
    (v : ℕ) × Contains walk v × IsTrue (sought v (place_of_walk mesh lengths walk))

-- Where places are sought at all vertices, each closed walk goes over a vertex where its place is
-- sought.
abbrev pub EverywhereMeets : Type 0
EverywhereMeets = (mesh : Mesh) (lengths : List ℕ) (target : Place → Bool) →
    MeetsUpTo mesh lengths target (everywhere target)

-- What meets walks meets fewer of them, and so does what seeks more.
abbrev pub MeetsFewer : Type 0
MeetsFewer =
    (mesh : Mesh) (lengths : List ℕ) (target fewer : Place → Bool) (sought more : Sought) →
    MeetsUpTo mesh lengths target sought → ((place : Place) → IsTrue (fewer place) → IsTrue (target place)) →
    ((z : ℕ) (place : Place) → IsTrue (fewer place) → IsTrue (sought z place) → IsTrue (more z place)) →
    MeetsUpTo mesh lengths fewer more

-- closed walks with numbers, in order, that they are no longer than
pub record AreSized (mesh : Mesh) (lengths : List ℕ) (cycles : List (List ℕ)) (sizes : List ℕ) : Type 0 where
  pub closed : All (IsClosed mesh) cycles
  pub count : length sizes ≡ length cycles
  pub no_longer : (j : ℕ) → j < length cycles →
      walk_length mesh lengths (cycle_at cycles j) ≤ slice_index sizes j
  pub order : IsNonDecreasing sizes

-- whether a vertex has to be searched for walks of a length that go over an edge, by the height of the edge: they are no
-- longer than the last number that the height counts. Over an edge without a height, for all
abbrev pub asks : List ℕ → Option ℕ → ℕ → Bool
asks sizes None size = true
asks sizes (Some zero) size = false
asks sizes (Some (suc i)) size = nat_le size (slice_index sizes i)

-- each edge has an end where the places are sought for which it asks
abbrev pub HaveAskedEnds : Mesh → List ℕ → (ℕ → Option ℕ) → (Place → Bool) → Sought → Type 0
HaveAskedEnds mesh sizes height target sought =
    (e : ℕ) (place : Place) → e < edge_count mesh → IsTrue (target place) →
    IsTrue (asks sizes (height e) place.0) →
    IsTrue (sought (ends mesh e).0 place) ⊎ IsTrue (sought (ends mesh e).1 place)

-- Where each edge has an end at which the places are sought for which it asks, each closed walk
-- that is no sum of shorter ones goes over a vertex where its place is sought.
abbrev pub AskedEndsMeet : Type 0
AskedEndsMeet =
    (mesh : Mesh) (lengths : List ℕ) (d : Split) (cycles : List (List ℕ)) (sizes : List ℕ) (height : ℕ → Option ℕ)
    (target : Place → Bool) (sought : Sought) → IsSurface mesh → IsSplit (cells_of mesh) d →
    AreSized mesh lengths cycles sizes → AreHeights mesh d cycles height →
    HaveAskedEnds mesh sizes height target sought → MeetsUpTo mesh lengths target sought

-- If every closed walk that isn't null meets a set of vertices, so does every closed walk that is
-- no sum of shorter ones.
abbrev pub SetsMeet : Type 0
SetsMeet =
    (mesh : Mesh) (lengths : List ℕ) (set : ℕ → Bool) (target : Place → Bool) → MeetsAll mesh set →
    MeetsUpTo mesh lengths target (λ z place. set z && target place)

-- ---- loops that are enough

-- the loop of an edge by trees of shortest walks of some lengths, none of which is below the mesh's: a search may bar ways
pub record IsFoundBy (mesh : Mesh) (lengths : List ℕ) (k : Found) : Type 0 where
  pub other : List ℕ
  pub trees : ℕ → Tree
  pub no_less : (e : ℕ) → e < edge_count mesh → edge_length lengths e ≤ edge_length other e
  pub shortest : AreShortestTrees mesh other trees
  pub loop : IsFoundLoop mesh other trees k

-- loops on which those loops depend, at each vertex, whose places are sought there
pub record AreEnoughFor (mesh : Mesh) (lengths : List ℕ) (trees : ℕ → Tree) (sought : Sought)
    (found : List Found) : Type 0 where
  pub loops : All (IsFoundBy mesh lengths) found
  pub depend : (z e : ℕ) → z < mesh.vertices → e < edge_count mesh →
      IsTrue (sought z (place_at mesh lengths trees z e)) → DependsAtPlace mesh lengths trees found z e

-- Such loops are closed walks that are no longer than their sizes
pub record FoundLaw (mesh : Mesh) (lengths : List ℕ) (found : List Found) : Type 0 where
  pub closed : All (λ k. IsClosed mesh k.walk) found
  pub no_longer : All (λ k. walk_length mesh lengths k.walk ≤ k.size) found
  pub up_to : (most : ℕ) → All (λ k. k.size ≤ most) found →
      All (λ w. walk_length mesh lengths w ≤ most) (walks_found found)
  pub sized : IsInOrder comes_no_later found → AreSized mesh lengths (walks_found found) (map (λ k. k.size) found)

-- Loops that were found are closed walks, no longer than their sizes, and in order of place their
-- sizes are in order.
abbrev pub FoundAreWalks : Type 0
FoundAreWalks =
    (mesh : Mesh) (lengths : List ℕ) (found : List Found) → IsSurface mesh → ArePositive mesh lengths →
    All (IsFoundBy mesh lengths) found → FoundLaw mesh lengths found

-- Where the walks that pass a test and are no sums of shorter ones are met, each closed walk that
-- passes it depends on loops that are enough and come no later than it.
abbrev pub WalksDependOnEnough : Type 0
WalksDependOnEnough =
    (mesh : Mesh) (lengths : List ℕ) (searched : ℕ → Tree) (target : Place → Bool) (sought : Sought)
    (found : List Found) (walk : List ℕ) → IsSurface mesh → ArePositive mesh lengths →
    AreShortestTrees mesh lengths searched → IsSoughtFromStart target → AreSoughtFromStart sought →
    MeetsUpTo mesh lengths target sought → AreEnoughFor mesh lengths searched sought found → IsClosed mesh walk →
    IsTrue (target (place_of_walk mesh lengths walk)) →
    DependsOn mesh (walks_within (place_of_walk mesh lengths walk) found) walk

-- The places that pass a test, one by one: those of the loops of the basis, and of the loops that were found
abbrev pub places_found : (Place → Bool) → List Found → List Place
places_found target found = map place_of_found (filter (λ k. target (place_of_found k)) found)

abbrev pub places_chosen : (Place → Bool) → List Loop → List Place
places_chosen target basis = map place_of_loop (filter (λ c. target (place_of_loop c)) basis)

-- Where the walks that pass a test and are no sums of shorter ones are met, each loop of an edge
-- that passes it, by lengths nowhere below those of the mesh, depends on loops that are enough and
-- come no later than it.
abbrev pub LoopsDependOnEnough : Type 0
LoopsDependOnEnough =
    (mesh : Mesh) (lengths : List ℕ) (searched : ℕ → Tree) (target : Place → Bool) (sought : Sought)
    (found : List Found) (other : List ℕ) (others : ℕ → Tree) (z e : ℕ) → IsSurface mesh → ArePositive mesh lengths →
    AreShortestTrees mesh lengths searched → IsSoughtFromStart target → AreSoughtFromStart sought →
    MeetsUpTo mesh lengths target sought → AreEnoughFor mesh lengths searched sought found →
    ((h : ℕ) → h < edge_count mesh → edge_length lengths h ≤ edge_length other h) →
    AreShortestTrees mesh other others → z < mesh.vertices → e < edge_count mesh →
    IsTrue (target (place_at mesh other others z e)) → DependsAtPlace mesh other others found z e

-- Where the walks that pass a test and are no sums of shorter ones are met, loops that are enough
-- for what is sought are enough at all vertices for all places that pass it.
abbrev pub EnoughEverywhere : Type 0
EnoughEverywhere =
    (mesh : Mesh) (lengths : List ℕ) (searched : ℕ → Tree) (target : Place → Bool) (sought : Sought)
    (found : List Found) → IsSurface mesh → ArePositive mesh lengths → AreShortestTrees mesh lengths searched →
    IsSoughtFromStart target → AreSoughtFromStart sought → MeetsUpTo mesh lengths target sought →
    AreEnoughFor mesh lengths searched sought found → AreEnoughFor mesh lengths searched (everywhere target) found

-- Where the walks that pass a test and are no sums of shorter ones are met, each loop of the chosen
-- basis that passes it goes over a vertex where its place is sought.
abbrev pub ChosenLoopsAreMet : Type 0
ChosenLoopsAreMet =
    (mesh : Mesh) (lengths : List ℕ) (trees : ℕ → Trees) (target : Place → Bool) (sought : Sought)
    (basis : List Loop) → IsSurface mesh → ArePositive mesh lengths → AreChosen mesh lengths trees →
    MeetsUpTo mesh lengths target sought → IsChosenBasis mesh lengths trees basis →
    All (λ c. IsTrue (target (place_of_loop c)) →
    (v : ℕ) × Contains c.walk v × IsTrue (sought v (place_of_loop c))) basis

-- So they have the places of the basis that pass the test
pub record HavePlacesUpTo (mesh : Mesh) (target : Place → Bool) (found : List Found) (basis : List Loop) : Type 0 where
  pub some : All (λ c. IsTrue (target (place_of_loop c)) → HasFound found c) basis
  pub same : IsIndependent mesh (walks_found found) → IsInOrder comes_no_later found →
      places_found target found ≡ places_chosen target basis

-- Where the walks that pass a test and are no sums of shorter ones are met, each loop of the chosen
-- basis that passes it has the place of one of the loops that are enough. If these are independent
-- and in order, the places that pass are equal one by one.
abbrev pub EnoughHavePlaces : Type 0
EnoughHavePlaces =
    (mesh : Mesh) (lengths : List ℕ) (trees : ℕ → Trees) (searched : ℕ → Tree) (target : Place → Bool)
    (sought : Sought) (found : List Found) (basis : List Loop) → IsSurface mesh → ArePositive mesh lengths →
    AreChosen mesh lengths trees → AreShortestTrees mesh lengths searched → IsSoughtFromStart target →
    AreSoughtFromStart sought → MeetsUpTo mesh lengths target sought →
    AreEnoughFor mesh lengths searched sought found → IsChosenBasis mesh lengths trees basis →
    HavePlacesUpTo mesh target found basis

-- their places are those of the basis, all of them
pub record HaveAllPlaces (found : List Found) (basis : List Loop) : Type 0 where
  pub some : All (HasFound found) basis
  pub same : IsInOrder comes_no_later found → map place_of_found found ≡ map place_of_loop basis

-- Where the walks that come before a place and are no sums of shorter ones are met, 2 − χ
-- independent loops that are enough, none later than that place, have all places of the chosen
-- basis, and one by one if they are in order.
abbrev pub FullCountHasPlaces : Type 0
FullCountHasPlaces =
    (mesh : Mesh) (lengths : List ℕ) (trees : ℕ → Trees) (searched : ℕ → Tree) (limit : Place)
    (sought : Sought) (found : List Found) (basis : List Loop) → IsSurface mesh → ArePositive mesh lengths →
    AreChosen mesh lengths trees → AreShortestTrees mesh lengths searched → AreSoughtFromStart sought →
    MeetsUpTo mesh lengths (comes_sooner limit) sought → AreEnoughFor mesh lengths searched sought found →
    IsIndependent mesh (walks_found found) → IsLoopCount mesh (length found) → All (IsWithin limit) found →
    IsChosenBasis mesh lengths trees basis → HaveAllPlaces found basis

-- ---- how the loops are found

-- the choice from loops that were kept and others, in order of place
pub record IsNextChoice (mesh : Mesh) (kept loops next : List Found) : Type 0 where
  pub all : List Found
  pub same_members : IsPermutation (kept ++ loops) all
  pub order : IsInOrder comes_no_later all
  pub choice : IsFoundChoice mesh all next

-- what the choice keeps: each closed walk that depended on those that come no later than a place depends on those of them
-- that are kept
pub record ChoiceKeeps (mesh : Mesh) (lengths : List ℕ) (kept loops next : List Found) : Type 0 where
  pub are_loops : All (IsFoundBy mesh lengths) next
  pub independent : IsIndependent mesh (walks_found next)
  pub order : IsInOrder comes_no_later next
  pub depend : (walk : List ℕ) (limit : Place) → IsClosed mesh walk →
      DependsOn mesh (walks_within limit (kept ++ loops)) walk → DependsOn mesh (walks_within limit next) walk
  pub still : (walk : List ℕ) (limit : Place) → IsClosed mesh walk →
      DependsOn mesh (walks_within limit kept) walk → DependsOn mesh (walks_within limit next) walk

-- No loops are enough for nothing. The choice from those that were kept and others is enough for what those that were kept
-- were enough for, and for the places at one vertex more whose loops depend on both. What is enough is so for fewer places
pub record CapsGrow (mesh : Mesh) (lengths : List ℕ) (trees : ℕ → Tree) : Type 0 where
  pub none : AreEnoughFor mesh lengths trees nothing []
  -- no loop has length 0
  pub begin : AreEnoughFor mesh lengths trees (everywhere (up_to_length 0)) []
  pub choose : (kept loops next : List Found) → All (IsFoundBy mesh lengths) kept → All (IsFoundBy mesh lengths) loops →
      IsNextChoice mesh kept loops next → ChoiceKeeps mesh lengths kept loops next
  pub keep : (sought : Sought) (kept loops next : List Found) → AreEnoughFor mesh lengths trees sought kept →
      ChoiceKeeps mesh lengths kept loops next → AreEnoughFor mesh lengths trees sought next
  pub more : (sought : Sought) (z : ℕ) (here : Place → Bool) (found : List Found) →
      AreEnoughFor mesh lengths trees sought found →
      ((e : ℕ) → e < edge_count mesh → IsTrue (here (place_at mesh lengths trees z e)) →
      DependsAtPlace mesh lengths trees found z e) →
      AreEnoughFor mesh lengths trees (with_places z here sought) found
  pub join : (sought more : Sought) (found : List Found) → AreEnoughFor mesh lengths trees sought found →
      AreEnoughFor mesh lengths trees more found → AreEnoughFor mesh lengths trees (either sought more) found
  pub fewer : (sought part : Sought) (found : List Found) → AreEnoughFor mesh lengths trees sought found →
      ((z : ℕ) (place : Place) → IsTrue (part z place) → IsTrue (sought z place)) →
      AreEnoughFor mesh lengths trees part found
  -- loops that are enough by one test for all vertices of a set are enough
  pub of_one : (sought : Place → Bool) (set : ℕ → Bool) (found : List Found) →
      AreEnoughOf mesh lengths trees sought set found →
      AreEnoughFor mesh lengths trees (λ z place. set z && sought place) found
  -- all loops at a vertex that aren't null
  pub at_vertex : (z : ℕ) (here : Place → Bool) (kept loops : List Found) → z < mesh.vertices →
      All (IsFoundBy mesh lengths) kept → AreFoundAt mesh lengths trees here z loops →
      All (IsFoundBy mesh lengths) loops
      × ((e : ℕ) → e < edge_count mesh → IsTrue (here (place_at mesh lengths trees z e)) →
      DependsAtPlace mesh lengths trees (kept ++ loops) z e)

-- How loops that are enough are kept, vertex by vertex: none are enough for nothing; the choice
-- from those kept and others is enough for what those kept were; with all loops of one more vertex
-- they are enough there too.
abbrev pub CapsGrowEnough : Type 0
CapsGrowEnough = (mesh : Mesh) (lengths : List ℕ) (trees : ℕ → Tree) → IsSurface mesh → ArePositive mesh lengths →
    AreShortestTrees mesh lengths trees → CapsGrow mesh lengths trees
