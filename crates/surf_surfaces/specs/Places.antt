-- Walks compared place by place, and the shortest closed walks that are not null.
use Rattle.std.specs.Prelude.{◌≡◌, ℕ, ◌<◌, ◌≤◌, nat_le, List, length, map, filter, All, Contains, slice_index}
use Rattle.surf_z2.specs.Order.{sorted}
use Rattle.surf_surfaces.specs.Mesh.{Mesh}
use Rattle.surf_surfaces.specs.Walk.{IsClosed, IsClosedAt, walk_length}
use Rattle.surf_surfaces.specs.Homology.{IsNull, IsIndependent, IsLoopSystem, IsBasis}
use Rattle.surf_surfaces.specs.Cycle.{IsShortestNonseparating}
use Rattle.surf_surfaces.specs.Choice.{DependsOn}

-- ---- place by place

-- those of the walks that are at most so long
abbrev pub walks_up_to : Mesh → List ℕ → ℕ → List (List ℕ) → List (List ℕ)
walks_up_to mesh lengths limit walks = filter (λ w. nat_le (walk_length mesh lengths w) limit) walks

-- how many there are
abbrev pub count_up_to : Mesh → List ℕ → ℕ → List (List ℕ) → ℕ
count_up_to mesh lengths limit walks = length (walks_up_to mesh lengths limit walks)

-- up to each length there are no more of the others than of the walks
abbrev pub AreNoLonger : Mesh → List ℕ → List (List ℕ) → List (List ℕ) → Type 0
AreNoLonger mesh lengths walks others =
    (limit : ℕ) → count_up_to mesh lengths limit others ≤ count_up_to mesh lengths limit walks

-- the lengths of the walks, the shortest first
abbrev pub lengths_in_order : Mesh → List ℕ → List (List ℕ) → List ℕ
lengths_in_order mesh lengths walks = sorted nat_le (map (walk_length mesh lengths) walks)

-- there are no more of the others than of the walks, and in order of length the k-th of the walks is no longer than the
-- k-th of the others
pub record AreNoLongerInOrder (mesh : Mesh) (lengths : List ℕ) (walks others : List (List ℕ)) : Type 0 where
  pub as_many : length others ≤ length walks
  pub each : (k : ℕ) → k < length others →
      slice_index (lengths_in_order mesh lengths walks) k ≤ slice_index (lengths_in_order mesh lengths others) k

-- a loop system at the vertex, and place by place no independent closed walks there are shorter
pub record IsLeastLoopSystemInOrder (mesh : Mesh) (lengths : List ℕ) (base : ℕ)
    (walks : List (List ℕ)) : Type 0 where
  pub is_system : IsLoopSystem mesh base walks
  pub least : (others : List (List ℕ)) → All (IsClosedAt mesh base) others → IsIndependent mesh others →
      AreNoLonger mesh lengths walks others

-- a basis, and place by place no independent closed walks are shorter
pub record IsLeastBasisInOrder (mesh : Mesh) (lengths : List ℕ) (walks : List (List ℕ)) : Type 0 where
  pub is_basis : IsBasis mesh walks
  pub least : (others : List (List ℕ)) → All (IsClosed mesh) others → IsIndependent mesh others →
      AreNoLonger mesh lengths walks others

-- the walk is, up to a boundary, a sum of some of the walks that are no longer than it, or of none
abbrev pub IsShortSum : Mesh → List ℕ → List (List ℕ) → List ℕ → Type 0
IsShortSum mesh lengths walks walk =
    DependsOn mesh (walks_up_to mesh lengths (walk_length mesh lengths walk) walks) walk

-- ---- the shortest

-- one of the walks, than which none of them is shorter
pub record IsShortestOf (mesh : Mesh) (lengths : List ℕ) (walks : List (List ℕ)) (walk : List ℕ) : Type 0 where
  pub is_one : Contains walks walk
  pub shortest : All (λ w. walk_length mesh lengths walk ≤ walk_length mesh lengths w) walks

-- a closed walk that is not null, and no such walk is shorter
pub record IsShortestNotNull (mesh : Mesh) (lengths : List ℕ) (walk : List ℕ) : Type 0 where
  pub closed : IsClosed mesh walk
  pub not_null : IsNull mesh walk → ⊥
  pub shortest : (other : List ℕ) → IsClosed mesh other → (IsNull mesh other → ⊥) →
      walk_length mesh lengths walk ≤ walk_length mesh lengths other

-- one that begins at the vertex, and no such walk there is shorter
pub record IsShortestNotNullAt (mesh : Mesh) (lengths : List ℕ) (base : ℕ) (walk : List ℕ) : Type 0 where
  pub closed : IsClosedAt mesh base walk
  pub not_null : IsNull mesh walk → ⊥
  pub shortest : (other : List ℕ) → IsClosedAt mesh base other → (IsNull mesh other → ⊥) →
      walk_length mesh lengths walk ≤ walk_length mesh lengths other

-- the least of the lengths of the walks is that of each shortest nonseparating cycle
abbrev pub MeasureShortest : Mesh → List ℕ → List (List ℕ) → Type 0
MeasureShortest mesh lengths walks = (cycle : List ℕ) → IsShortestNonseparating mesh lengths cycle →
    slice_index (lengths_in_order mesh lengths walks) 0 ≡ walk_length mesh lengths cycle
