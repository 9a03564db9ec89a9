-- Barred vertices: a search may leave out vertices that were searched as far, and tell of vertices near its own.
use Rattle.std.specs.Prelude.{ℕ, suc, ◌+◌, ◌*◌, ◌<◌, ◌≤◌, Bool, ◌&&◌, ◌||◌, nat_le, IsTrue, List, ◌++◌, filter, All}
use Rattle.std.specs.Prelude.{IsPermutation}
use Rattle.surf_z2.specs.Greedy.{greedy}
use Rattle.surf_z2.specs.Order.{IsInOrder}
use Rattle.surf_z2.specs.Space.{numbers, is_nothing}
use Rattle.surf_graphs.specs.Cells.{Split, IsSplit}
use Rattle.surf_graphs.specs.Trees.{Tree}
use Rattle.surf_surfaces.specs.Mesh.{Mesh}
use Rattle.surf_surfaces.specs.Surface.{edge_count, IsSurface}
use Rattle.surf_surfaces.specs.Walk.{edge_length, ArePositive}
use Rattle.surf_surfaces.specs.Homology.{IsNull, IsIndependent}
use Rattle.surf_surfaces.specs.Cells.{cells_of}
use Rattle.surf_surfaces.specs.Class.{class_of, AreShortestTrees}
use Rattle.surf_surfaces.specs.Loop.{loop_walk, loop_length}
use Rattle.surf_surfaces.specs.Choice.{DependsOn}
use Rattle.surf_surfaces.specs.FewBases.{Place, is_no_later, place_at, Found, walks_found, DependsAtPlace}
use Rattle.surf_surfaces.specs.FewBases.{comes_no_later}
use Rattle.surf_firsts.specs.Near.{is_shorter_by, AgreeOff, IsSoughtFromStart}
use Rattle.surf_caps.specs.Caps.{Sought, AreSoughtFromStart, up_to_length, AreEnoughFor, with_places, IsFoundBy}
use Rattle.surf_caps.specs.Caps.{ChoiceKeeps}
use Rattle.surf_caps.specs.Stages.{behind, IsClassQuotient, AreFoundByImage}

-- A search may go by lengths that differ at vertices where all that it seeks is sought already.
abbrev pub BarredSearchesSuffice : Type 0
BarredSearchesSuffice =
    (mesh : Mesh) (lengths other : List ℕ) (trees others : ℕ → Tree) (sought : Sought) (set : ℕ → Bool) (z : ℕ)
    (here : Place → Bool) (found : List Found) → IsSurface mesh → ArePositive mesh lengths →
    ArePositive mesh other → AreShortestTrees mesh lengths trees → AreShortestTrees mesh other others →
    AgreeOff mesh lengths other set → z < mesh.vertices → AreEnoughFor mesh lengths trees sought found →
    AreSoughtFromStart sought → IsSoughtFromStart here →
    ((n : ℕ) (place : Place) → IsTrue (set n) → IsTrue (here place) → IsTrue (sought n place)) →
    ((e : ℕ) → e < edge_count mesh → IsTrue (here (place_at mesh other others z e)) →
    DependsAtPlace mesh other others found z e) →
    AreEnoughFor mesh lengths trees (with_places z here sought) found

-- Let other lengths be nowhere less. For each loop by them that isn't null there is one by the mesh's
-- lengths, at the same vertex, that isn't null and comes no later.
abbrev pub BarredLoopsComeNoSooner : Type 0
BarredLoopsComeNoSooner =
    (mesh : Mesh) (lengths other : List ℕ) (trees others : ℕ → Tree) (z e : ℕ) → IsSurface mesh →
    ArePositive mesh lengths → AreShortestTrees mesh lengths trees → AreShortestTrees mesh other others →
    ((h : ℕ) → h < edge_count mesh → edge_length lengths h ≤ edge_length other h) → z < mesh.vertices →
    e < edge_count mesh → (IsNull mesh (loop_walk mesh (others z) e) → ⊥) →
    (f : ℕ) × (f < edge_count mesh) × (IsNull mesh (loop_walk mesh (trees z) f) → ⊥)
    × IsTrue (is_no_later (place_at mesh lengths trees z f) (place_at mesh other others z e))

-- at the vertices that are no farther from z other places too. Ranks are distances
abbrev pub with_near_places : (ℕ → Tree) → ℕ → ℕ → (Place → Bool) → Sought → Sought
with_near_places trees z far here sought y place = sought y place || (nat_le ((trees z).rank y) far && here place)

-- each loop at z that is at most so long depends on loops of a list that are shorter than it by so much, or no longer than
-- a length
abbrev pub DependOnShorterOr : Mesh → List ℕ → (ℕ → Tree) → ℕ → ℕ → ℕ → ℕ → List Found → Type 0
DependOnShorterOr mesh lengths trees z most margin least found =
    (e : ℕ) → e < edge_count mesh → loop_length mesh lengths (trees z) e ≤ most →
    DependsOn mesh (walks_found
    (filter (λ k. is_shorter_by margin (loop_length mesh lengths (trees z) e) k || nat_le k.size least) found))
    (loop_walk mesh (trees z) e)

-- Let loops be enough for the places that are sought at each vertex, and let further places lie
-- between two lengths, l and m. Let each loop at a vertex z up to m + 2d depend on those of the
-- loops that are shorter than it by more than 2d, or no longer than l. Then the loops are enough
-- for the further places at the vertices within d of z too. The lengths that z's loops and
-- distances go by may differ at the edges with an end in a set where the further places are sought
-- already.
abbrev pub NearPlacesNeedNoMore : Type 0
NearPlacesNeedNoMore =
    (mesh : Mesh) (lengths other : List ℕ) (trees others : ℕ → Tree) (sought : Sought) (set : ℕ → Bool)
    (z far least most : ℕ) (here : Place → Bool) (found : List Found) → IsSurface mesh → ArePositive mesh lengths →
    ArePositive mesh other → AreShortestTrees mesh lengths trees → AreShortestTrees mesh other others →
    AgreeOff mesh lengths other set → z < mesh.vertices → AreEnoughFor mesh lengths trees sought found →
    AreSoughtFromStart sought →
    ((n : ℕ) (place : Place) → IsTrue (set n) → IsTrue (here place) → IsTrue (sought n place)) →
    ((place : Place) → IsTrue (here place) → (least < place.0) × (place.0 ≤ most)) →
    DependOnShorterOr mesh other others z (most + 2 * far) (suc (2 * far)) least found →
    AreEnoughFor mesh lengths trees (with_near_places others z far here sought) found

-- ---- one search of a stage

-- loops that are final: independent and in order, none of them longer than a length, with a map of classes that takes just
-- their sums to zero
pub record AreFinal (mesh : Mesh) (lengths : List ℕ) (d : Split) (image : ℕ → ℕ) (least : ℕ)
    (final : List Found) : Type 0 where
  pub found : All (IsFoundBy mesh lengths) final
  pub order : IsInOrder comes_no_later final
  pub short : All (λ k. k.size ≤ least) final
  pub independent : IsIndependent mesh (walks_found final)
  pub quotient : IsClassQuotient mesh d image (walks_found final)

-- lengths and trees of a search that bars the vertices of a set, at which all is sought that it seeks
pub record IsBarred (mesh : Mesh) (lengths other : List ℕ) (others : ℕ → Tree) (sought : Sought) (set : ℕ → Bool)
    (here : Place → Bool) : Type 0 where
  pub positive : ArePositive mesh other
  pub no_less : (e : ℕ) → e < edge_count mesh → edge_length lengths e ≤ edge_length other e
  pub shortest : AreShortestTrees mesh other others
  pub agree : AgreeOff mesh lengths other set
  pub as_far : (n : ℕ) (place : Place) → IsTrue (set n) → IsTrue (here place) → IsTrue (sought n place)

-- loops that were kept behind those that are final, and loops that a search at z found behind them, by images: all of them
-- in order of place
pub record AreBehind (mesh : Mesh) (lengths : List ℕ) (d : Split) (image : ℕ → ℕ) (least : ℕ) (other : List ℕ)
    (others : ℕ → Tree) (z : ℕ) (here : Place → Bool) (kept loops all : List Found) : Type 0 where
  pub kept_found : All (IsFoundBy mesh lengths) kept
  pub loops_found : All (IsFoundBy mesh lengths) loops
  pub by_image : AreFoundByImage mesh d image other others z (behind (up_to_length least) here) loops
  pub same_members : IsPermutation (kept ++ loops) all
  pub order : IsInOrder comes_no_later all
  pub longer : All (λ k. least < k.size) all

-- what is final, and the choice from the others by images
abbrev pub next_choice : Mesh → Split → (ℕ → ℕ) → List Found → List Found → List Found
next_choice mesh d image final all = final ++ greedy numbers is_nothing (λ k. image (class_of mesh d k.walk)) all

-- One search of a stage: what is final, and the choice by images from what was kept behind it and
-- what a search found that bars vertices, is enough for the searched vertex too.
abbrev pub StageSearchesKeep : Type 0
StageSearchesKeep =
    (mesh : Mesh) (lengths : List ℕ) (trees : ℕ → Tree) (d : Split) (image : ℕ → ℕ) (least : ℕ) (other : List ℕ)
    (others : ℕ → Tree) (sought : Sought) (set : ℕ → Bool) (z : ℕ) (here : Place → Bool)
    (final kept loops all : List Found) → IsSurface mesh → ArePositive mesh lengths → IsSplit (cells_of mesh) d →
    AreShortestTrees mesh lengths trees → AreFinal mesh lengths d image least final →
    IsBarred mesh lengths other others sought set here → z < mesh.vertices → AreSoughtFromStart sought →
    IsSoughtFromStart here →
    ((n : ℕ) (place : Place) → IsTrue (up_to_length least place) → IsTrue (sought n place)) →
    AreEnoughFor mesh lengths trees sought (final ++ kept) →
    AreBehind mesh lengths d image least other others z here kept loops all →
    AreEnoughFor mesh lengths trees (with_places z here sought) (next_choice mesh d image final all)
    × ChoiceKeeps mesh lengths (final ++ kept) loops (next_choice mesh d image final all)
