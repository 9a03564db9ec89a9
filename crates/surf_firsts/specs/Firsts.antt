-- The loops of edges at a base that are at most so long, and those of them that are chosen.
use Rattle.std.specs.Prelude.{◌≡◌, ℕ, ◌<◌, ◌≤◌, Bool, not, nat_le, List, filter, All, Contains}
use Rattle.surf_z2.specs.Order.{IsInOrder}
use Rattle.surf_graphs.specs.Trees.{Tree}
use Rattle.surf_surfaces.specs.Mesh.{Mesh}
use Rattle.surf_surfaces.specs.Surface.{edge_count, IsSurface}
use Rattle.surf_surfaces.specs.Walk.{ArePositive}
use Rattle.surf_surfaces.specs.Homology.{IsNull}
use Rattle.surf_surfaces.specs.Loop.{loop_walk, loop_length}
use Rattle.surf_surfaces.specs.Choice.{Trees, AreChosenAt, Loop, comes_before, walks, loop_at, loops_at, DependsOn, IsGreedyChoice}

-- whether d doesn't come before c
abbrev pub is_no_later : Loop → Loop → Bool
is_no_later c d = not (comes_before d c)

-- the loops at a base that are chosen and come no later than the loop of the e-th edge
abbrev pub loops_no_later : Mesh → List ℕ → ℕ → Trees → ℕ → List Loop
loops_no_later mesh lengths base trees e =
    filter (λ c. is_no_later c (loop_at mesh lengths base trees.tree e)) (loops_at mesh lengths base trees)

-- The loop of each edge at a base depends on the loops that are chosen there and come no later.
abbrev pub LoopsDependOnNoLater : Type 0
LoopsDependOnNoLater =
    (mesh : Mesh) (lengths : List ℕ) (base : ℕ) (trees : Trees) (e : ℕ) → IsSurface mesh → ArePositive mesh lengths →
    AreChosenAt mesh lengths base trees → e < edge_count mesh →
    DependsOn mesh (walks (loops_no_later mesh lengths base trees e)) (loop_walk mesh trees.tree e)

-- whether a loop is at most so long
abbrev pub is_up_to : ℕ → Loop → Bool
is_up_to most c = nat_le c.size most

-- the loops at a base that are chosen and at most so long
abbrev pub loops_up_to : Mesh → List ℕ → ℕ → Trees → ℕ → List Loop
loops_up_to mesh lengths base trees most = filter (is_up_to most) (loops_at mesh lengths base trees)

-- it is the loop of its edge at a base, and at most so long
pub record IsLoopUpTo (mesh : Mesh) (lengths : List ℕ) (base most : ℕ) (tree : Tree) (c : Loop) : Type 0 where
  pub edge_in : c.edge < edge_count mesh
  pub is : c ≡ loop_at mesh lengths base tree c.edge
  pub within : c.size ≤ most

-- loops of edges at a base that are at most so long, in order; each one that isn't null is among them
pub record AreLoopsUpTo (mesh : Mesh) (lengths : List ℕ) (base most : ℕ) (tree : Tree) (loops : List Loop) : Type 0 where
  pub each : All (IsLoopUpTo mesh lengths base most tree) loops
  pub all : (e : ℕ) → e < edge_count mesh → (IsNull mesh (loop_walk mesh tree e) → ⊥) →
      loop_length mesh lengths tree e ≤ most → Contains loops (loop_at mesh lengths base tree e)
  pub order : IsInOrder is_no_later loops

-- Of loops of edges at a base that are at most so long, in order, among which is each that isn't
-- null, the greedy choice is the chosen loops that are at most so long.
abbrev pub FirstLoopsAreGreedy : Type 0
FirstLoopsAreGreedy =
    (mesh : Mesh) (lengths : List ℕ) (base most : ℕ) (trees : Trees) (loops : List Loop) → IsSurface mesh →
    ArePositive mesh lengths → AreChosenAt mesh lengths base trees →
    AreLoopsUpTo mesh lengths base most trees.tree loops →
    IsGreedyChoice mesh loops (loops_up_to mesh lengths base trees most)
