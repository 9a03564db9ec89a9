-- Loops with places and classes that are claimed to be a basis, and what is shown of closed walks that need one of them.
use Rattle.std.specs.Prelude.{◌≡◌, ◌≢◌, ℕ, ◌<◌, ◌≤◌, Bool, true, false, IsTrue, List, length, map, take, All, Contains}
use Rattle.std.specs.Prelude.{slice_index_or}
use Rattle.surf_z2.specs.Space.{Spanned, Independent, numbers}
use Rattle.surf_graphs.specs.Cells.{Split}
use Rattle.surf_graphs.specs.Trees.{Tree}
use Rattle.surf_surfaces.specs.Mesh.{Mesh}
use Rattle.surf_surfaces.specs.Surface.{edge_count}
use Rattle.surf_surfaces.specs.Walk.{IsClosed, ArePositive}
use Rattle.surf_surfaces.specs.Homology.{IsLoopCount}
use Rattle.surf_surfaces.specs.Class.{class_of, AreShortestTrees}
use Rattle.surf_surfaces.specs.Loop.{loop_walk}
use Rattle.surf_surfaces.specs.FewBases.{Place, is_no_later, place_at}
use Rattle.surf_sheets.specs.Placed.{place_of_walk}
use Rattle.surf_sheetorder.specs.Off.{ComesFirst, ComesFirstAt}
use Rattle.surf_sheetorder.specs.Searches.{IsLinear, edges_passing, AgreeWhereClear, IsLoopPast, ListedLoop}

-- ---- loops that are claimed

-- what is told of a closed walk: its place and its class
abbrev pub told_of_walk : Mesh → List ℕ → Split → List ℕ → ListedLoop
told_of_walk mesh lengths d walk =
    record { place = place_of_walk mesh lengths walk; class = class_of mesh d walk }

-- the classes of loops
abbrev pub classes_of : List ListedLoop → List ℕ
classes_of loops = map (λ c. c.class) loops

-- the place of the loop with a number
abbrev pub place_in : List ListedLoop → ℕ → Place
place_in loops i = (slice_index_or loops i (record { place = (0, 0); class = 0 })).place

-- as many loops as 2 − χ are told of closed walks, independent, and in the order of length and base
pub record AreClaimedLoops (mesh : Mesh) (lengths : List ℕ) (d : Split) (loops : List ListedLoop) : Type 0 where
  pub walks : List (List ℕ)
  pub closed : All (IsClosed mesh) walks
  pub count : IsLoopCount mesh (length walks)
  pub told : map (told_of_walk mesh lengths d) walks ≡ loops
  pub order : (i j : ℕ) → i < j → j < length loops → IsTrue (is_no_later (place_in loops i) (place_in loops j))
  pub independent : Independent numbers (classes_of loops)

-- ---- what a class needs

-- a linear test that of some classes the one with a number passes alone: as a sum of them, what passes it needs that one
pub record TellsNeed (classes : List ℕ) (i : ℕ) (test : ℕ → Bool) : Type 0 where
  pub linear : IsLinear test
  pub own : test (slice_index_or classes i 0) ≡ true
  pub others : (j : ℕ) → j < length classes → j ≢ i → test (slice_index_or classes j 0) ≡ false

-- no closed walk that needs the loop with a number comes sooner
abbrev pub NoneNeedsSooner : Mesh → List ℕ → Split → List ListedLoop → ℕ → Type 0
NoneNeedsSooner mesh lengths d loops i = (test : ℕ → Bool) → TellsNeed (classes_of loops) i test →
    ComesFirst mesh lengths (edges_passing mesh d test) (place_in loops i)

-- no such walk over the vertex does
abbrev pub NoneNeedsSoonerAt : Mesh → List ℕ → Split → List ListedLoop → ℕ → ℕ → Type 0
NoneNeedsSoonerAt mesh lengths d loops i x = (test : ℕ → Bool) → TellsNeed (classes_of loops) i test →
    ComesFirstAt mesh lengths (edges_passing mesh d test) (place_in loops i) x

-- a class is a sum of the first loops, so many of them
abbrev pub IsSumOfFirst : List ListedLoop → ℕ → ℕ → Type 0
IsSumOfFirst loops n class = Spanned numbers (take n (classes_of loops)) class

-- a class is a sum of the first loops, and if the one with a number is among these then a place is past that one's
abbrev pub IsPastNeed : List ListedLoop → ℕ → ℕ → ListedLoop → Type 0
IsPastNeed loops margin i found =
    (n : ℕ) × IsSumOfFirst loops n found.class × (i < n → IsLoopPast margin (place_in loops i) found.place)

-- ---- a search

-- Of the loops at z by trees of shortest walks, each that isn't null and whose place is sought has a listed one of its
-- class that comes no later.
abbrev pub AreFirstListed : Mesh → Split → List ℕ → (ℕ → Tree) → ℕ → (Place → Bool) → List ListedLoop → Type 0
AreFirstListed mesh d other trees z sought listed = (e : ℕ) → e < edge_count mesh →
    IsTrue (sought (place_at mesh other trees z e)) → class_of mesh d (loop_walk mesh (trees z) e) ≢ 0 →
    (found : ListedLoop) × Contains listed found × (found.class ≡ class_of mesh d (loop_walk mesh (trees z) e))
    × IsTrue (is_no_later found.place (place_at mesh other trees z e))

-- a search from z that leaves out vertices lists loops, and some vertices are within a margin of z
pub record IsSearchOff (mesh : Mesh) (lengths : List ℕ) (d : Split) (off : ℕ → Bool) (z : ℕ) (sought : Place → Bool)
    (listed : List ListedLoop) (margin : ℕ) (near : List ℕ) : Type 0 where
  pub other : List ℕ
  pub trees : ℕ → Tree
  pub positive : ArePositive mesh other
  pub shortest : AreShortestTrees mesh other trees
  pub agree : AgreeWhereClear mesh off lengths other
  pub inside : z < mesh.vertices
  pub listed_are : AreFirstListed mesh d other trees z sought listed
  pub near_are : All (λ x. (trees z).rank x ≤ margin) near
