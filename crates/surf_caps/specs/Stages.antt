-- Stages: what is found of a length at most so much is part of the basis, and what comes after is sought by signatures up
-- to the sums of that part.
use Rattle.std.specs.Prelude.{◌≡◌, ◌≢◌, ℕ, ◌+◌, ◌<◌, ◌≤◌, Bool, true, IsTrue, ◌&&◌, not, List, ◌++◌, length, map, take}
use Rattle.std.specs.Prelude.{◌⊎◌, All, Contains, IsPermutation, Option, Some, None}
use Rattle.surf_z2.specs.Greedy.{greedy}
use Rattle.surf_z2.specs.Order.{IsInOrder}
use Rattle.surf_z2.specs.Space.{numbers, is_nothing, Spanned}
use Rattle.surf_graphs.specs.Cells.{Split, IsSplit}
use Rattle.surf_graphs.specs.Trees.{Tree}
use Rattle.surf_surfaces.specs.Mesh.{Mesh}
use Rattle.surf_surfaces.specs.Surface.{edge_count, IsSurface}
use Rattle.surf_surfaces.specs.Walk.{IsClosed, walk_length, parity, ArePositive}
use Rattle.surf_surfaces.specs.Homology.{IsIndependent}
use Rattle.surf_surfaces.specs.Cells.{cells_of}
use Rattle.surf_surfaces.specs.Class.{class_of, AreShortestTrees}
use Rattle.surf_surfaces.specs.Signature.{edge_signature}
use Rattle.surf_surfaces.specs.Loop.{loop_walk}
use Rattle.surf_surfaces.specs.Choice.{Trees, AreChosen, Loop, DependsOn, IsChosenBasis}
use Rattle.surf_surfaces.specs.FewBases.{Place, place_at, Found, is_within, walks_found, DependsAtPlace}
use Rattle.surf_surfaces.specs.FewBases.{comes_no_later, IsFoundChoice}
use Rattle.surf_caps.specs.Heights.{AreHeights}
use Rattle.surf_caps.specs.Caps.{Sought, up_to_length, either, MeetsUpTo, AreSized, HaveAskedEnds, AreEnoughFor}
use Rattle.surf_caps.specs.Caps.{AreSoughtFromStart, places_found, places_chosen, IsNextChoice}
use Rattle.surf_caps.specs.Quotients.{IsQuotient}

-- Where the walks up to a length that are no sums of shorter ones are met, independent loops in
-- order that are enough have the places of the chosen basis up to that length, one by one.
abbrev pub StagesHavePlaces : Type 0
StagesHavePlaces =
    (mesh : Mesh) (lengths : List ℕ) (trees : ℕ → Trees) (searched : ℕ → Tree) (most : ℕ) (sought : Sought)
    (found : List Found) (basis : List Loop) → IsSurface mesh → ArePositive mesh lengths →
    AreChosen mesh lengths trees → AreShortestTrees mesh lengths searched → AreSoughtFromStart sought →
    MeetsUpTo mesh lengths (up_to_length most) sought → AreEnoughFor mesh lengths searched sought found →
    IsIndependent mesh (walks_found found) → IsInOrder comes_no_later found →
    IsChosenBasis mesh lengths trees basis →
    places_found (up_to_length most) found ≡ places_chosen (up_to_length most) basis

-- what passes a second test and not the first
abbrev pub behind : (Place → Bool) → (Place → Bool) → Place → Bool
behind target wider place = wider place && not (target place)

-- What meets the walks that pass one test, and what meets those that pass a second and not the
-- first, meet all that pass the second.
abbrev pub StagesMeet : Type 0
StagesMeet =
    (mesh : Mesh) (lengths : List ℕ) (target wider : Place → Bool) (sought more : Sought) →
    MeetsUpTo mesh lengths target sought → MeetsUpTo mesh lengths (behind target wider) more →
    MeetsUpTo mesh lengths wider (either sought more)

-- a map of classes that takes just the sums of the classes of walks to zero
abbrev pub IsClassQuotient : Mesh → Split → (ℕ → ℕ) → List (List ℕ) → Type 0
IsClassQuotient mesh d image final = IsQuotient numbers numbers image (map (class_of mesh d) final)

-- Let a linear map take just the sums of the classes of final walks to zero. A closed walk that is
-- no sum of those walks runs an edge an odd number of times whose signature the map doesn't take to
-- zero.
abbrev pub ImagesMeet : Type 0
ImagesMeet =
    (mesh : Mesh) (d : Split) (image : ℕ → ℕ) (final : List (List ℕ)) (walk : List ℕ) → IsSurface mesh →
    IsSplit (cells_of mesh) d → IsClassQuotient mesh d image final → All (IsClosed mesh) final →
    IsClosed mesh walk → (DependsOn mesh final walk → ⊥) →
    (e : ℕ) × (e < edge_count mesh) × (parity mesh walk e ≡ true) × (image (edge_signature mesh d e) ≢ 0)

-- the height of each edge by images
pub record AreImageHeights (mesh : Mesh) (d : Split) (image : ℕ → ℕ) (cycles : List (List ℕ))
    (height : ℕ → Option ℕ) : Type 0 where
  pub within : (e n : ℕ) → e < edge_count mesh → height e ≡ Some n → n ≤ length cycles
  pub spanned : (e n : ℕ) → e < edge_count mesh → height e ≡ Some n →
      Spanned numbers (map (λ w. image (class_of mesh d w)) (take n cycles)) (image (edge_signature mesh d e))

-- counted on from so many
abbrev pub raised : ℕ → Option ℕ → Option ℕ
raised count None = None
raised count (Some n) = Some (count + n)

-- Heights by images, counted on from the number of walks that are final, are heights.
abbrev pub ImageHeightsAreHeights : Type 0
ImageHeightsAreHeights =
    (mesh : Mesh) (d : Split) (image : ℕ → ℕ) (final cycles : List (List ℕ)) (height : ℕ → Option ℕ) →
    IsClassQuotient mesh d image final → AreImageHeights mesh d image cycles height →
    AreHeights mesh d (final ++ cycles) (λ e. raised (length final) (height e))

-- Behind a length that what is final doesn't exceed, `AskedEndsMeet` holds of heights by images.
abbrev pub ImageEndsMeet : Type 0
ImageEndsMeet =
    (mesh : Mesh) (lengths : List ℕ) (d : Split) (image : ℕ → ℕ) (final cycles : List (List ℕ)) (sizes : List ℕ)
    (height : ℕ → Option ℕ) (least : ℕ) (wider : Place → Bool) (sought : Sought) → IsSurface mesh →
    IsSplit (cells_of mesh) d → IsClassQuotient mesh d image final → All (IsClosed mesh) final →
    All (λ w. walk_length mesh lengths w ≤ least) final → AreSized mesh lengths cycles sizes →
    AreImageHeights mesh d image cycles height →
    HaveAskedEnds mesh sizes height (behind (up_to_length least) wider) sought →
    MeetsUpTo mesh lengths (behind (up_to_length least) wider) sought

-- The greedy choice from loops that are final and others is those that are final and the choice
-- from the others by images.
abbrev pub ImagesChoose : Type 0
ImagesChoose =
    (mesh : Mesh) (d : Split) (image : ℕ → ℕ) (final others : List Found) → IsSurface mesh →
    IsSplit (cells_of mesh) d → IsClassQuotient mesh d image (walks_found final) →
    All (λ k. IsClosed mesh k.walk) final → All (λ k. IsClosed mesh k.walk) others →
    IsIndependent mesh (walks_found final) →
    IsFoundChoice mesh (final ++ others) (final ++ greedy numbers is_nothing (λ k. image (class_of mesh d k.walk)) others)

-- the loops at z whose places are sought: each has an empty image, or the image of one that was found and comes no later
abbrev pub AreFoundByImage : Mesh → Split → (ℕ → ℕ) → List ℕ → (ℕ → Tree) → ℕ → (Place → Bool) → List Found → Type 0
AreFoundByImage mesh d image lengths trees z here loops =
    (e : ℕ) → e < edge_count mesh → IsTrue (here (place_at mesh lengths trees z e)) →
    (image (class_of mesh d (loop_walk mesh (trees z) e)) ≡ 0)
    ⊎ ((k : Found) × Contains loops k × IsTrue (is_within (place_at mesh lengths trees z e) k)
    × (image (class_of mesh d k.walk) ≡ image (class_of mesh d (loop_walk mesh (trees z) e))))

-- Let a linear map take just the sums of the classes of final loops to zero; it gives each class
-- its image. Let the sought loops at a vertex, longer than all final ones, have the image zero or
-- that of a found loop that comes no later. Then they depend on final loops and found ones that
-- come no later.
abbrev pub FoundByImageDepend : Type 0
FoundByImageDepend =
    (mesh : Mesh) (d : Split) (image : ℕ → ℕ) (lengths : List ℕ) (trees : ℕ → Tree) (z least : ℕ)
    (here : Place → Bool) (final kept loops : List Found) → IsSurface mesh → IsSplit (cells_of mesh) d →
    AreShortestTrees mesh lengths trees → z < mesh.vertices → IsClassQuotient mesh d image (walks_found final) →
    All (λ k. IsClosed mesh k.walk) final → All (λ k. IsClosed mesh k.walk) kept →
    All (λ k. IsClosed mesh k.walk) loops → All (λ k. k.size ≤ least) final →
    ((place : Place) → IsTrue (here place) → least < place.0) →
    AreFoundByImage mesh d image lengths trees z here loops → (e : ℕ) → e < edge_count mesh →
    IsTrue (here (place_at mesh lengths trees z e)) →
    DependsAtPlace mesh lengths trees ((final ++ kept) ++ loops) z e

-- With final loops fixed, the next greedy choice is made from the images of the others alone.
abbrev pub ImagesChooseNext : Type 0
ImagesChooseNext =
    (mesh : Mesh) (d : Split) (image : ℕ → ℕ) (least : ℕ) (final kept loops all : List Found) → IsSurface mesh →
    IsSplit (cells_of mesh) d → IsClassQuotient mesh d image (walks_found final) →
    All (λ k. IsClosed mesh k.walk) final → All (λ k. IsClosed mesh k.walk) kept →
    All (λ k. IsClosed mesh k.walk) loops → IsIndependent mesh (walks_found final) →
    IsInOrder comes_no_later final → All (λ k. k.size ≤ least) final → IsInOrder comes_no_later all →
    All (λ k. least < k.size) all → IsPermutation (kept ++ loops) all →
    IsNextChoice mesh (final ++ kept) loops
    (final ++ greedy numbers is_nothing (λ k. image (class_of mesh d k.walk)) all)
