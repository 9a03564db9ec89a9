-- What is least in total is least place by place, and its first is a shortest walk that is not null.
use Rattle.std.specs.Prelude.{◌≡◌, ℕ, ◌+◌, ◌<◌, ◌≤◌, ◌↔◌, List, ◌∷◌, length, map, sum, take, All, Contains, slice_index}
use Rattle.surf_surfaces.specs.Mesh.{Mesh}
use Rattle.surf_surfaces.specs.Surface.{face_count, edge_count, IsSurface}
use Rattle.surf_surfaces.specs.Walk.{IsClosed, IsClosedAt, walk_length, ArePositive}
use Rattle.surf_surfaces.specs.Homology.{total, IsIndependent, IsLoopSystem, IsBasis, IsLeastLoopSystem, IsLeastBasis}
use Rattle.surf_surfaces.specs.Cycle.{IsShortestNonseparating}
use Rattle.surf_surfaces.specs.Choice.{Trees, AreChosenAt, AreChosen, Loop, walks, loops_at, IsChosenBasis}
use Rattle.surf_surfaces.specs.Places.{AreNoLonger, AreNoLongerInOrder, lengths_in_order, IsLeastLoopSystemInOrder}
use Rattle.surf_surfaces.specs.Places.{IsLeastBasisInOrder, IsShortSum, IsShortestOf, IsShortestNotNull}
use Rattle.surf_surfaces.specs.Places.{IsShortestNotNullAt, MeasureShortest}

-- Walks are no longer than others, counted up to each length, exactly where they are so in order,
-- place by place. Then each of the others has a walk that is no longer, and the n shortest are in
-- total no longer than the n shortest of the others. Where there are as many, they are so in total,
-- and a bound on the others bounds them.
pub record NoLongerLaw (mesh : Mesh) (lengths : List ℕ) (walks others : List (List ℕ)) : Type 0 where
  pub in_order : AreNoLonger mesh lengths walks others ↔ AreNoLongerInOrder mesh lengths walks others
  -- each of the others has a walk that is no longer
  pub shortest : AreNoLonger mesh lengths walks others → (other : List ℕ) → Contains others other →
      (walk : List ℕ) × Contains walks walk × (walk_length mesh lengths walk ≤ walk_length mesh lengths other)
  -- the n shortest total no more than the n shortest of the others
  pub some : AreNoLonger mesh lengths walks others → (n : ℕ) → n ≤ length others →
      sum (take n (lengths_in_order mesh lengths walks)) ≤ sum (take n (lengths_in_order mesh lengths others))
  -- where they are as many, they total no more
  pub total : AreNoLonger mesh lengths walks others → length others ≡ length walks →
      total mesh lengths walks ≤ total mesh lengths others
  -- and a bound on the others bounds them too, so the longest is no longer than the longest of the others
  pub longest : AreNoLonger mesh lengths walks others → length others ≡ length walks → (limit : ℕ) →
      All (λ w. walk_length mesh lengths w ≤ limit) others → All (λ w. walk_length mesh lengths w ≤ limit) walks

-- A loop system is least in total exactly where it is least place by place.
abbrev pub LoopSystemsAreLeastInOrder : Type 0
LoopSystemsAreLeastInOrder =
    (mesh : Mesh) (lengths : List ℕ) (base : ℕ) (walks : List (List ℕ)) → IsSurface mesh → ArePositive mesh lengths →
    IsLeastLoopSystem mesh lengths base walks ↔ IsLeastLoopSystemInOrder mesh lengths base walks

-- A basis is least in total exactly where it is least place by place.
abbrev pub BasesAreLeastInOrder : Type 0
BasesAreLeastInOrder =
    (mesh : Mesh) (lengths : List ℕ) (walks : List (List ℕ)) → IsSurface mesh → ArePositive mesh lengths →
    IsLeastBasis mesh lengths walks ↔ IsLeastBasisInOrder mesh lengths walks

-- All least loop systems at a vertex have equal lengths, place by place.
abbrev pub LeastLoopSystemsAreAlike : Type 0
LeastLoopSystemsAreAlike =
    (mesh : Mesh) (lengths : List ℕ) (base : ℕ) (walks others : List (List ℕ)) → IsSurface mesh →
    ArePositive mesh lengths → IsLeastLoopSystem mesh lengths base walks →
    IsLeastLoopSystem mesh lengths base others →
    lengths_in_order mesh lengths walks ≡ lengths_in_order mesh lengths others

-- All least bases have equal lengths, place by place.
abbrev pub LeastBasesAreAlike : Type 0
LeastBasesAreAlike =
    (mesh : Mesh) (lengths : List ℕ) (walks others : List (List ℕ)) → IsSurface mesh → ArePositive mesh lengths →
    IsLeastBasis mesh lengths walks → IsLeastBasis mesh lengths others →
    lengths_in_order mesh lengths walks ≡ lengths_in_order mesh lengths others

-- A loop system is least exactly where each closed walk at the vertex is a short sum of it.
abbrev pub LoopSystemsAreLeastByShortSums : Type 0
LoopSystemsAreLeastByShortSums =
    (mesh : Mesh) (lengths : List ℕ) (base : ℕ) (walks : List (List ℕ)) → IsSurface mesh → ArePositive mesh lengths →
    IsLoopSystem mesh base walks →
    IsLeastLoopSystem mesh lengths base walks
    ↔ ((walk : List ℕ) → IsClosedAt mesh base walk → IsShortSum mesh lengths walks walk)

-- A basis is least exactly where each closed walk is a short sum of it.
abbrev pub BasesAreLeastByShortSums : Type 0
BasesAreLeastByShortSums =
    (mesh : Mesh) (lengths : List ℕ) (walks : List (List ℕ)) → IsSurface mesh → ArePositive mesh lengths →
    IsBasis mesh walks →
    IsLeastBasis mesh lengths walks
    ↔ ((walk : List ℕ) → IsClosed mesh walk → IsShortSum mesh lengths walks walk)

-- ---- what is chosen

-- The loops that are chosen at a base stand in the order of their lengths.
abbrev pub ChosenLoopsAreInOrder : Type 0
ChosenLoopsAreInOrder =
    (mesh : Mesh) (lengths : List ℕ) (base : ℕ) (trees : Trees) → IsSurface mesh → ArePositive mesh lengths →
    AreChosenAt mesh lengths base trees →
    lengths_in_order mesh lengths (walks (loops_at mesh lengths base trees))
    ≡ map (λ c. c.size) (loops_at mesh lengths base trees)

-- The k-th of the loops that are chosen at a base is no longer than the k-th in length of any
-- independent closed walks there.
abbrev pub ChosenLoopsAreLeastInOrder : Type 0
ChosenLoopsAreLeastInOrder =
    (mesh : Mesh) (lengths : List ℕ) (base : ℕ) (trees : Trees) (others : List (List ℕ)) → IsSurface mesh →
    ArePositive mesh lengths → AreChosenAt mesh lengths base trees → All (IsClosedAt mesh base) others →
    IsIndependent mesh others → (k : ℕ) → k < length others →
    slice_index (map (λ c. c.size) (loops_at mesh lengths base trees)) k
    ≤ slice_index (lengths_in_order mesh lengths others) k

-- The chosen basis stands in the order of its lengths.
abbrev pub ChosenBasisIsInOrder : Type 0
ChosenBasisIsInOrder =
    (mesh : Mesh) (lengths : List ℕ) (trees : ℕ → Trees) (basis : List Loop) → IsSurface mesh →
    ArePositive mesh lengths → AreChosen mesh lengths trees → IsChosenBasis mesh lengths trees basis →
    lengths_in_order mesh lengths (walks basis) ≡ map (λ c. c.size) basis

-- The k-th of the chosen basis is no longer than the k-th in length of any independent closed
-- walks.
abbrev pub ChosenBasisIsLeastInOrder : Type 0
ChosenBasisIsLeastInOrder =
    (mesh : Mesh) (lengths : List ℕ) (trees : ℕ → Trees) (basis : List Loop) (others : List (List ℕ)) →
    IsSurface mesh → ArePositive mesh lengths → AreChosen mesh lengths trees →
    IsChosenBasis mesh lengths trees basis → All (IsClosed mesh) others → IsIndependent mesh others → (k : ℕ) →
    k < length others →
    slice_index (map (λ c. c.size) basis) k ≤ slice_index (lengths_in_order mesh lengths others) k

-- ---- the shortest

-- A shortest of a least loop system is a shortest closed walk at the vertex that is not null.
abbrev pub ShortestLoopsAreShortestNotNull : Type 0
ShortestLoopsAreShortestNotNull =
    (mesh : Mesh) (lengths : List ℕ) (base : ℕ) (walks : List (List ℕ)) (walk : List ℕ) → IsSurface mesh →
    ArePositive mesh lengths → IsLeastLoopSystem mesh lengths base walks → IsShortestOf mesh lengths walks walk →
    IsShortestNotNullAt mesh lengths base walk

-- A shortest of a least basis is a shortest closed walk that is not null.
abbrev pub ShortestOfBasesAreShortestNotNull : Type 0
ShortestOfBasesAreShortestNotNull =
    (mesh : Mesh) (lengths : List ℕ) (walks : List (List ℕ)) (walk : List ℕ) → IsSurface mesh →
    ArePositive mesh lengths → IsLeastBasis mesh lengths walks → IsShortestOf mesh lengths walks walk →
    IsShortestNotNull mesh lengths walk

-- The shortest closed walks that are not null are the shortest nonseparating cycles.
abbrev pub ShortestNotNullIsNonseparating : Type 0
ShortestNotNullIsNonseparating =
    (mesh : Mesh) (lengths : List ℕ) (walk : List ℕ) → IsSurface mesh → ArePositive mesh lengths →
    IsShortestNotNull mesh lengths walk ↔ IsShortestNonseparating mesh lengths walk

-- The least of the lengths of walks is that of a shortest of them.
abbrev pub ShortestIsFirstInOrder : Type 0
ShortestIsFirstInOrder =
    (mesh : Mesh) (lengths : List ℕ) (walks : List (List ℕ)) (walk : List ℕ) → IsShortestOf mesh lengths walks walk →
    slice_index (lengths_in_order mesh lengths walks) 0 ≡ walk_length mesh lengths walk

-- The least length of a least basis is that of each shortest nonseparating cycle.
abbrev pub LeastBasesMeasureShortest : Type 0
LeastBasesMeasureShortest =
    (mesh : Mesh) (lengths : List ℕ) (walks : List (List ℕ)) → IsSurface mesh → ArePositive mesh lengths →
    IsLeastBasis mesh lengths walks → MeasureShortest mesh lengths walks

-- Where χ is below 2, a basis has a shortest.
abbrev pub BasesHaveShortest : Type 0
BasesHaveShortest =
    (mesh : Mesh) (lengths : List ℕ) (walks : List (List ℕ)) → IsBasis mesh walks →
    mesh.vertices + face_count mesh < edge_count mesh + 2 → (walk : List ℕ) × IsShortestOf mesh lengths walks walk

-- The first of the loops that are chosen at a base is a shortest closed walk there that is not
-- null.
abbrev pub FirstLoopIsShortestNotNull : Type 0
FirstLoopIsShortestNotNull =
    (mesh : Mesh) (lengths : List ℕ) (base : ℕ) (trees : Trees) (first : Loop) (rest : List Loop) → IsSurface mesh →
    ArePositive mesh lengths → AreChosenAt mesh lengths base trees →
    loops_at mesh lengths base trees ≡ first ∷ rest → IsShortestNotNullAt mesh lengths base first.walk

-- The first of the chosen basis is a shortest closed walk that is not null.
abbrev pub FirstOfBasisIsShortestNotNull : Type 0
FirstOfBasisIsShortestNotNull =
    (mesh : Mesh) (lengths : List ℕ) (trees : ℕ → Trees) (first : Loop) (rest : List Loop) → IsSurface mesh →
    ArePositive mesh lengths → AreChosen mesh lengths trees → IsChosenBasis mesh lengths trees (first ∷ rest) →
    IsShortestNotNull mesh lengths first.walk
