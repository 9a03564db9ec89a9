-- The choice from few bases: searches at the vertices of a set that every closed walk meets which isn't null find the
-- bases that the choice needs. The searches may go by any trees of shortest walks.
use Rattle.std.specs.Prelude.{◌≡◌, ◌≢◌, ℕ, suc, ◌+◌, ◌*◌, ◌<◌, ◌≤◌, ◌⊎◌, Bool, true, false, IsTrue, IsFalse}
use Rattle.std.specs.Prelude.{MatchBool, not, ◌&&◌, ◌||◌, ◌==◌, nat_lt, nat_le, min, List, [], ◌∷◌, ◌++◌, length, map}
use Rattle.std.specs.Prelude.{take, filter, All, Contains, IsPermutation, slice_index, slice_index_or}
use Rattle.surf_z2.specs.Order.{merge, IsInOrder}
use Rattle.surf_z2.specs.Parity.{least_below}
use Rattle.surf_z2.specs.Space.{chosen, no_member}
use Rattle.surf_graphs.specs.Cells.{Split, IsSplit}
use Rattle.surf_graphs.specs.Trees.{Tree, on_path}
use Rattle.surf_surfaces.specs.Mesh.{Mesh}
use Rattle.surf_surfaces.specs.Surface.{edge_count, ends, IsSurface}
use Rattle.surf_surfaces.specs.Walk.{IsClosed, edge_number, ArePositive}
use Rattle.surf_surfaces.specs.Homology.{IsNull, IsIndependent, IsLoopCount}
use Rattle.surf_surfaces.specs.Cells.{cells_of}
use Rattle.surf_surfaces.specs.Class.{AreShortestTrees}
use Rattle.surf_surfaces.specs.Loop.{loop_walk, loop_length}
use Rattle.surf_surfaces.specs.ShortestTree.{IsTight, IsShortestTree}
use Rattle.surf_surfaces.specs.Signature.{edge_signature}
use Rattle.surf_surfaces.specs.Choice.{Trees, AreChosen, Loop, comes_before, loops_at, candidates, DependsOn}
use Rattle.surf_surfaces.specs.Choice.{IsGreedyChoice, IsChosenBasis}

-- ---- the least base of a loop

-- whether y is on a shortest walk from z to u: going by way of y is no longer. Ranks are distances
abbrev pub is_on_way : (ℕ → Tree) → ℕ → ℕ → ℕ → Bool
is_on_way trees z u y = (trees z).rank y + (trees y).rank u == (trees z).rank u

-- the least vertex on a shortest walk from z to u
abbrev pub least_on_way : Mesh → (ℕ → Tree) → ℕ → ℕ → ℕ
least_on_way mesh trees z u = least_below mesh.vertices (is_on_way trees z u)

-- the least vertex on a shortest walk from z to an end of the e-th edge
abbrev pub least_base : Mesh → (ℕ → Tree) → ℕ → ℕ → ℕ
least_base mesh trees z e =
    min (least_on_way mesh trees z (ends mesh e).0) (least_on_way mesh trees z (ends mesh e).1)

-- a table that gives each vertex within a distance the least of itself and of what it gives the tight neighbours
pub record IsLeastTable (mesh : Mesh) (lengths : List ℕ) (distance : ℕ → ℕ) (far : ℕ) (least : ℕ → ℕ) : Type 0 where
  pub own : (w : ℕ) → w < mesh.vertices → distance w ≤ far → least w ≤ w
  pub before : (p w : ℕ) → p < mesh.vertices → w < mesh.vertices → distance w ≤ far →
      IsTight mesh lengths distance p w → least w ≤ least p
  pub one : (w : ℕ) → w < mesh.vertices → distance w ≤ far → (least w ≡ w)
      ⊎ ((p : ℕ) × (p < mesh.vertices) × IsTight mesh lengths distance p w × (least w ≡ least p))

-- A table that gives each vertex the least of itself and of what its tight neighbours have gives
-- the least vertex on the way.
abbrev pub LeastTablesAreLeast : Type 0
LeastTablesAreLeast =
    (mesh : Mesh) (lengths : List ℕ) (trees : ℕ → Tree) (z far : ℕ) (least : ℕ → ℕ) → IsSurface mesh →
    ArePositive mesh lengths → AreShortestTrees mesh lengths trees → z < mesh.vertices →
    IsLeastTable mesh lengths (trees z).rank far least →
    (w : ℕ) → w < mesh.vertices → (trees z).rank w ≤ far → least w ≡ least_on_way mesh trees z w

-- ---- sets that all closed walks meet which aren't null

-- every closed walk that isn't null has a vertex in the set
abbrev pub MeetsAll : Mesh → (ℕ → Bool) → Type 0
MeetsAll mesh set = (walk : List ℕ) → IsClosed mesh walk → (IsNull mesh walk → ⊥) →
    (v : ℕ) × Contains walk v × IsTrue (set v)

-- the set has an end of each edge whose signature isn't empty
abbrev pub HasSignedEnds : Mesh → Split → (ℕ → Bool) → Type 0
HasSignedEnds mesh d set = (e : ℕ) → e < edge_count mesh → edge_signature mesh d e ≢ 0 →
    IsTrue (set (ends mesh e).0) ⊎ IsTrue (set (ends mesh e).1)

-- A set with an end of each edge whose signature isn't empty is met by each closed walk that isn't
-- null.
abbrev pub SignedEndsMeetAll : Type 0
SignedEndsMeetAll =
    (mesh : Mesh) (d : Split) (set : ℕ → Bool) → IsSurface mesh → IsSplit (cells_of mesh) d → HasSignedEnds mesh d set →
    MeetsAll mesh set

-- ---- loops that are found

-- the place of a loop in the order of length and base
abbrev pub Place : Type 0
Place = ℕ × ℕ

abbrev pub is_no_later : Place → Place → Bool
is_no_later a b = nat_lt a.0 b.0 || ((a.0 == b.0) && nat_le a.1 b.1)

-- the length of the e-th edge's loop at z, and its least base
abbrev pub place_at : Mesh → List ℕ → (ℕ → Tree) → ℕ → ℕ → Place
place_at mesh lengths trees z e = (loop_length mesh lengths (trees z) e, least_base mesh trees z e)

-- a loop that a search found: its length, its least base and its walk
pub record Found : Type 0 where
  pub size : ℕ
  pub through : ℕ
  pub walk : List ℕ

abbrev pub place_of_found : Found → Place
place_of_found k = (k.size, k.through)

-- whether it comes no later than a place
abbrev pub is_within : Place → Found → Bool
is_within limit k = is_no_later (place_of_found k) limit

abbrev pub IsWithin : Place → Found → Type 0
IsWithin limit k = IsTrue (is_within limit k)

abbrev pub walks_found : List Found → List (List ℕ)
walks_found found = map (λ k. k.walk) found

-- the walks of those that come no later than a place
abbrev pub walks_within : Place → List Found → List (List ℕ)
walks_within limit found = walks_found (filter (is_within limit) found)

-- it is the loop of an edge at a vertex
pub record IsFoundAt (mesh : Mesh) (lengths : List ℕ) (trees : ℕ → Tree) (z e : ℕ) (k : Found) : Type 0 where
  pub size : k.size ≡ loop_length mesh lengths (trees z) e
  pub through : k.through ≡ least_base mesh trees z e
  pub walk : k.walk ≡ loop_walk mesh (trees z) e

pub record IsFoundLoop (mesh : Mesh) (lengths : List ℕ) (trees : ℕ → Tree) (k : Found) : Type 0 where
  pub from : ℕ
  pub edge : ℕ
  pub from_in : from < mesh.vertices
  pub edge_in : edge < edge_count mesh
  pub at : IsFoundAt mesh lengths trees from edge k

-- the loop of e at z depends on those found that come no later
abbrev pub DependsAtPlace : Mesh → List ℕ → (ℕ → Tree) → List Found → ℕ → ℕ → Type 0
DependsAtPlace mesh lengths trees found z e =
    DependsOn mesh (walks_within (place_at mesh lengths trees z e) found) (loop_walk mesh (trees z) e)

-- loops of edges, on which all loops at the vertices of the set depend
pub record AreEnough (mesh : Mesh) (lengths : List ℕ) (trees : ℕ → Tree) (set : ℕ → Bool)
    (found : List Found) : Type 0 where
  pub loops : All (IsFoundLoop mesh lengths trees) found
  pub depend : (z e : ℕ) → z < mesh.vertices → IsTrue (set z) → e < edge_count mesh →
      DependsAtPlace mesh lengths trees found z e

-- some of those found has the length and the base of the loop
abbrev pub HasFound : List Found → Loop → Type 0
HasFound found c = (k : Found) × Contains found k × (k.size ≡ c.size) × (k.through ≡ c.base)

-- Where loops are enough for a set that is met, each loop of the basis has the place of one of
-- them.
abbrev pub FewBasesSuffice : Type 0
FewBasesSuffice =
    (mesh : Mesh) (lengths : List ℕ) (trees : ℕ → Trees) (searched : ℕ → Tree) (set : ℕ → Bool) (found : List Found)
    (basis : List Loop) → IsSurface mesh → ArePositive mesh lengths → AreChosen mesh lengths trees →
    AreShortestTrees mesh lengths searched → MeetsAll mesh set → AreEnough mesh lengths searched set found →
    IsChosenBasis mesh lengths trees basis → All (HasFound found) basis

-- The trees that are chosen are trees of shortest walks.
abbrev pub ChosenTreesAreShortest : Type 0
ChosenTreesAreShortest =
    (mesh : Mesh) (lengths : List ℕ) (trees : ℕ → Trees) → IsSurface mesh → ArePositive mesh lengths →
    AreChosen mesh lengths trees → AreShortestTrees mesh lengths (λ x. (trees x).tree)

-- ---- the choice from some bases

-- the choice made vertex by vertex, where vertices outside the set are passed over
pub data IsKeptAmong (mesh : Mesh) (lengths : List ℕ) (trees : ℕ → Trees) (here : ℕ → Bool) : ℕ → List Loop →
    Type 0 where
  none_yet : IsKeptAmong mesh lengths trees here 0 []
  passed_over : {bases : ℕ} {kept : List Loop} → IsKeptAmong mesh lengths trees here bases kept → IsFalse (here bases) →
      IsKeptAmong mesh lengths trees here (suc bases) kept
  taken : {bases : ℕ} {kept next : List Loop} → IsKeptAmong mesh lengths trees here bases kept → IsTrue (here bases) →
      IsGreedyChoice mesh (merge comes_before kept (loops_at mesh lengths bases (trees bases))) next →
      IsKeptAmong mesh lengths trees here (suc bases) next

-- the set has the base of the loop
abbrev pub HasBase : (ℕ → Bool) → Loop → Type 0
HasBase here c = IsTrue (here c.base)

-- What is kept where vertices outside a set are passed over is the basis, where the set has the
-- bases of the basis.
abbrev pub BasisIsKeptAmong : Type 0
BasisIsKeptAmong =
    (mesh : Mesh) (lengths : List ℕ) (trees : ℕ → Trees) (here : ℕ → Bool) (basis kept : List Loop) →
    IsSurface mesh → ArePositive mesh lengths → AreChosen mesh lengths trees →
    IsChosenBasis mesh lengths trees basis → All (HasBase here) basis →
    IsKeptAmong mesh lengths trees here mesh.vertices kept → IsChosenBasis mesh lengths trees kept

-- the choice made from the first bases of a list: what was kept and the loops at the next base, in order, and of these
-- again the greedy choice
pub data IsKeptOver (mesh : Mesh) (lengths : List ℕ) (trees : ℕ → Trees) (bases : List ℕ) : ℕ → List Loop → Type 0 where
  none_of_them : IsKeptOver mesh lengths trees bases 0 []
  one_of_them : {done : ℕ} {kept next : List Loop} → IsKeptOver mesh lengths trees bases done kept →
      done < length bases →
      IsGreedyChoice mesh
      (merge comes_before kept (loops_at mesh lengths (slice_index bases done) (trees (slice_index bases done)))) next →
      IsKeptOver mesh lengths trees bases (suc done) next

-- increasing vertices
pub record AreBases (mesh : Mesh) (bases : List ℕ) : Type 0 where
  pub inside : (k : ℕ) → k < length bases → slice_index bases k < mesh.vertices
  pub rise : (i j : ℕ) → i < j → j < length bases → slice_index bases i < slice_index bases j

-- the list has the base of the loop
abbrev pub HasBaseIn : List ℕ → Loop → Type 0
HasBaseIn bases c = Contains bases c.base

-- What is kept along a list of bases is the basis, where the list has the bases of the basis.
abbrev pub BasisIsKeptOver : Type 0
BasisIsKeptOver =
    (mesh : Mesh) (lengths : List ℕ) (trees : ℕ → Trees) (bases : List ℕ) (basis kept : List Loop) →
    IsSurface mesh → ArePositive mesh lengths → AreChosen mesh lengths trees → AreBases mesh bases →
    IsChosenBasis mesh lengths trees basis → All (HasBaseIn bases) basis →
    IsKeptOver mesh lengths trees bases (length bases) kept → IsChosenBasis mesh lengths trees kept

-- the list has the base of each loop that was found
abbrev pub HaveBases : List ℕ → List Found → Type 0
HaveBases bases found = (k : Found) → Contains found k → Contains bases k.through

-- What is kept along a list of bases is the basis, where the list has the least bases of loops that
-- are enough.
abbrev pub BasisIsKeptOverFew : Type 0
BasisIsKeptOverFew =
    (mesh : Mesh) (lengths : List ℕ) (trees : ℕ → Trees) (searched : ℕ → Tree) (set : ℕ → Bool) (found : List Found)
    (bases : List ℕ) (kept : List Loop) → IsSurface mesh → ArePositive mesh lengths → AreChosen mesh lengths trees →
    AreShortestTrees mesh lengths searched → MeetsAll mesh set → AreEnough mesh lengths searched set found →
    AreBases mesh bases → HaveBases bases found →
    IsKeptOver mesh lengths trees bases (length bases) kept → IsChosenBasis mesh lengths trees kept

-- ---- the first candidate

-- of the loops at vertices of a set that aren't null, that of edge e at z comes first by length and least base
pub record IsFirstFound (mesh : Mesh) (lengths : List ℕ) (trees : ℕ → Tree) (set : ℕ → Bool) (z e : ℕ) : Type 0 where
  pub from_in : z < mesh.vertices
  pub edge_in : e < edge_count mesh
  pub nonnull : IsNull mesh (loop_walk mesh (trees z) e) → ⊥
  pub least : (y f : ℕ) → y < mesh.vertices → IsTrue (set y) → f < edge_count mesh →
      (IsNull mesh (loop_walk mesh (trees y) f) → ⊥) →
      IsTrue (is_no_later (place_at mesh lengths trees z e) (place_at mesh lengths trees y f))

-- the first candidate has its length and its least base, and is the first loop at that base
pub record IsFirstAt (mesh : Mesh) (lengths : List ℕ) (trees : ℕ → Trees) (place : Place) (first : Loop) : Type 0 where
  pub size : first.size ≡ place.0
  pub base : first.base ≡ place.1
  pub heads : (others : List Loop) × (loops_at mesh lengths place.1 (trees place.1) ≡ first ∷ others)

-- Of the loops at the vertices of a set that every closed walk meets which isn't null, let one that
-- isn't null come first by length and least base. Then the first candidate has its length and its
-- least base, and is the first of the loops chosen at that base.
abbrev pub FirstIsAtLeastBase : Type 0
FirstIsAtLeastBase =
    (mesh : Mesh) (lengths : List ℕ) (trees : ℕ → Trees) (searched : ℕ → Tree) (set : ℕ → Bool) (z e : ℕ) (first : Loop)
    (rest : List Loop) → IsSurface mesh → ArePositive mesh lengths → AreChosen mesh lengths trees →
    AreShortestTrees mesh lengths searched → MeetsAll mesh set → IsFirstFound mesh lengths searched set z e →
    candidates mesh lengths trees ≡ first ∷ rest →
    IsFirstAt mesh lengths trees (place_at mesh lengths searched z e) first

-- ---- how the loops are found

-- loops of edges, on which those loops at the vertices of the set depend whose places are sought
pub record AreEnoughOf (mesh : Mesh) (lengths : List ℕ) (trees : ℕ → Tree) (sought : Place → Bool) (set : ℕ → Bool)
    (found : List Found) : Type 0 where
  pub loops : All (IsFoundLoop mesh lengths trees) found
  pub depend : (z e : ℕ) → z < mesh.vertices → IsTrue (set z) → e < edge_count mesh →
      IsTrue (sought (place_at mesh lengths trees z e)) → DependsAtPlace mesh lengths trees found z e

abbrev pub comes_no_later : Found → Found → Bool
comes_no_later k other = is_within (place_of_found other) k

-- of loops in order, exactly those that don't depend on the loops before them
pub record IsFoundChoice (mesh : Mesh) (loops kept : List Found) : Type 0 where
  -- for each loop whether it is kept
  pub keep : List Bool
  pub are_kept : kept ≡ chosen keep loops
  pub exactly : (i : ℕ) (other : Found) → i < length loops →
      MatchBool (slice_index_or keep i false)
      (DependsOn mesh (walks_found (take i loops)) (slice_index_or loops i other).walk → ⊥)
      (DependsOn mesh (walks_found (take i loops)) (slice_index_or loops i other).walk)

-- loops that were found at z: each loop there that isn't null, and whose place is sought, is among them
pub record AreFoundAt (mesh : Mesh) (lengths : List ℕ) (trees : ℕ → Tree) (sought : Place → Bool) (z : ℕ)
    (loops : List Found) : Type 0 where
  pub are_loops : All (IsFoundLoop mesh lengths trees) loops
  pub all : (e : ℕ) → e < edge_count mesh → (IsNull mesh (loop_walk mesh (trees z) e) → ⊥) →
      IsTrue (sought (place_at mesh lengths trees z e)) →
      (k : Found) × Contains loops k × IsFoundAt mesh lengths trees z e k

abbrev pub every_place : Place → Bool
every_place place = true

-- the set with one more vertex
abbrev pub with_vertex : ℕ → (ℕ → Bool) → ℕ → Bool
with_vertex z set y = set y || (y == z)

-- no loops are enough for no vertices. Of those that were kept and those found at one more vertex, in order of place,
-- the greedy choice is enough for one vertex more, and independent. What is enough is so for fewer places and
-- vertices
pub record EnoughGrow (mesh : Mesh) (lengths : List ℕ) (trees : ℕ → Tree) : Type 0 where
  pub none : (sought : Place → Bool) → AreEnoughOf mesh lengths trees sought no_member []
  pub more : (sought : Place → Bool) (set : ℕ → Bool) (z : ℕ) (kept loops all next : List Found) →
      AreEnoughOf mesh lengths trees sought set kept → z < mesh.vertices →
      AreFoundAt mesh lengths trees sought z loops →
      IsPermutation (kept ++ loops) all → IsInOrder comes_no_later all → IsFoundChoice mesh all next →
      AreEnoughOf mesh lengths trees sought (with_vertex z set) next × IsIndependent mesh (walks_found next)
  pub fewer : (sought fewer : Place → Bool) (set part : ℕ → Bool) (kept : List Found) →
      AreEnoughOf mesh lengths trees sought set kept →
      ((place : Place) → IsTrue (fewer place) → IsTrue (sought place)) →
      ((z : ℕ) → IsTrue (part z) → IsTrue (set z)) → AreEnoughOf mesh lengths trees fewer part kept
  pub all : (set : ℕ → Bool) (kept : List Found) → AreEnoughOf mesh lengths trees every_place set kept →
      AreEnough mesh lengths trees set kept

-- What was kept and the loops found at one more vertex: the greedy choice by place is enough for
-- one vertex more, and independent.
abbrev pub LoopsGrowEnough : Type 0
LoopsGrowEnough = (mesh : Mesh) (lengths : List ℕ) (trees : ℕ → Tree) → IsSurface mesh →
    AreShortestTrees mesh lengths trees → EnoughGrow mesh lengths trees

-- For each set there are loops that are enough.
abbrev pub EnoughLoopsExist : Type 0
EnoughLoopsExist =
    (mesh : Mesh) (lengths : List ℕ) (trees : ℕ → Tree) (set : ℕ → Bool) → IsSurface mesh →
    AreShortestTrees mesh lengths trees → (found : List Found) × AreEnough mesh lengths trees set found

abbrev pub place_of_loop : Loop → Place
place_of_loop c = (c.size, c.base)

-- Where loops that are enough for a set that is met are independent and in order, their places are
-- those of the basis, one by one.
abbrev pub PlacesAreThoseOfBasis : Type 0
PlacesAreThoseOfBasis =
    (mesh : Mesh) (lengths : List ℕ) (trees : ℕ → Trees) (searched : ℕ → Tree) (set : ℕ → Bool) (found : List Found)
    (basis : List Loop) → IsSurface mesh → ArePositive mesh lengths → AreChosen mesh lengths trees →
    AreShortestTrees mesh lengths searched → MeetsAll mesh set → AreEnough mesh lengths searched set found →
    IsIndependent mesh (walks_found found) → IsInOrder comes_no_later found →
    IsChosenBasis mesh lengths trees basis → map place_of_found found ≡ map place_of_loop basis

-- ---- short searches

-- The ends of an edge are no farther from a base than half the length of its loop.
abbrev pub EndsAreNear : Type 0
EndsAreNear =
    (mesh : Mesh) (lengths : List ℕ) (trees : ℕ → Tree) (z e : ℕ) → AreShortestTrees mesh lengths trees →
    z < mesh.vertices → e < edge_count mesh →
    (2 * (trees z).rank (ends mesh e).0 ≤ loop_length mesh lengths (trees z) e)
    × (2 * (trees z).rank (ends mesh e).1 ≤ loop_length mesh lengths (trees z) e)

-- as far as a distance, ranks are distances and parents least tight neighbours, and `up` is the number of the edge to a
-- parent
pub record IsNearTree (mesh : Mesh) (lengths : List ℕ) (base far : ℕ) (distance : ℕ → ℕ) (near : Tree) : Type 0 where
  pub root : near.root ≡ base
  pub ranks : (v : ℕ) → v < mesh.vertices → distance v ≤ far → near.rank v ≡ distance v
  pub tight : (v : ℕ) → v < mesh.vertices → distance v ≤ far → v ≢ base →
      IsTight mesh lengths distance (near.parent v) v
  pub least : (u v : ℕ) → v < mesh.vertices → distance v ≤ far → v ≢ base → IsTight mesh lengths distance u v →
      near.parent v ≤ u
  pub up : (v : ℕ) → v < mesh.vertices → distance v ≤ far → v ≢ base →
      near.up v ≡ edge_number mesh (near.parent v, v)

-- the tree that is so near has the paths to near vertices, and the loops of the edges whose ends are both near
pub record HasNearLoops (mesh : Mesh) (lengths : List ℕ) (far : ℕ) (tree near : Tree) : Type 0 where
  pub paths : (v : ℕ) → v < mesh.vertices → tree.rank v ≤ far → (e : ℕ) → on_path near v e ≡ on_path tree v e
  pub loops : (e : ℕ) → e < edge_count mesh → tree.rank (ends mesh e).0 ≤ far → tree.rank (ends mesh e).1 ≤ far →
      loop_walk mesh near e ≡ loop_walk mesh tree e
  pub sizes : (e : ℕ) → e < edge_count mesh → tree.rank (ends mesh e).0 ≤ far → tree.rank (ends mesh e).1 ≤ far →
      loop_length mesh lengths near e ≡ loop_length mesh lengths tree e

-- A tree as far as a distance has the loops of the edges whose ends are as near.
abbrev pub NearTreesHaveLoops : Type 0
NearTreesHaveLoops =
    (mesh : Mesh) (lengths : List ℕ) (base far : ℕ) (tree near : Tree) → IsSurface mesh → ArePositive mesh lengths →
    IsShortestTree mesh lengths base tree → IsNearTree mesh lengths base far tree.rank near →
    HasNearLoops mesh lengths far tree near

-- the places that come before a place
abbrev pub comes_sooner : Place → Place → Bool
comes_sooner limit place = not (is_no_later limit place)

-- 2 − χ independent loops, none later than a place, are enough where they are enough of the loops
-- before it.
abbrev pub ShortSearchesSuffice : Type 0
ShortSearchesSuffice =
    (mesh : Mesh) (lengths : List ℕ) (trees : ℕ → Tree) (set : ℕ → Bool) (limit : Place) (found : List Found) →
    IsSurface mesh → ArePositive mesh lengths → AreShortestTrees mesh lengths trees →
    IsIndependent mesh (walks_found found) → IsLoopCount mesh (length found) → All (IsWithin limit) found →
    AreEnoughOf mesh lengths trees (comes_sooner limit) set found → AreEnough mesh lengths trees set found
