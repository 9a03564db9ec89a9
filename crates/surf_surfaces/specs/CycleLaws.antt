-- What holds of simple cycles.
use Rattle.std.specs.Prelude.{ℕ, ◌<◌, ◌≤◌, ◌↔◌, List}
use Rattle.surf_graphs.specs.Cells.{primal, IsNullChain}
use Rattle.surf_graphs.specs.Trees.{Tree, loop}
use Rattle.surf_surfaces.specs.Mesh.{Mesh}
use Rattle.surf_surfaces.specs.Surface.{edge_count, IsSurface}
use Rattle.surf_surfaces.specs.Walk.{walk_length, ArePositive}
use Rattle.surf_surfaces.specs.Homology.{IsNull, IsLoopCount}
use Rattle.surf_surfaces.specs.Cycle.{IsSimpleCycle, Separation, IsNonseparating, IsShortestNonseparating}
use Rattle.surf_surfaces.specs.Cells.{cells_of}
use Rattle.surf_surfaces.specs.Class.{AreShortestTrees}
use Rattle.surf_surfaces.specs.Loop.{loop_walk, loop_length}

-- A simple cycle separates exactly where it is null.
abbrev pub NullCyclesSeparate : Type 0
NullCyclesSeparate = (mesh : Mesh) → IsSurface mesh → (walk : List ℕ) → IsSimpleCycle mesh walk →
    IsNull mesh walk ↔ Separation mesh walk

-- the loop of the e-th edge is no boundary
abbrev pub IsEssential : Mesh → Tree → ℕ → Type 0
IsEssential mesh tree e = IsNullChain (cells_of mesh) (loop (primal (cells_of mesh)) tree e) → ⊥

-- A nonseparating cycle is a shortest one where no loop through a shortest tree that is no boundary
-- is shorter.
abbrev pub CyclesBelowLoopsAreShortest : Type 0
CyclesBelowLoopsAreShortest =
    (mesh : Mesh) (lengths : List ℕ) (trees : ℕ → Tree) (walk : List ℕ) → IsSurface mesh →
    AreShortestTrees mesh lengths trees → IsNonseparating mesh walk →
    ((x e : ℕ) → x < mesh.vertices → e < edge_count mesh → IsEssential mesh (trees x) e →
    walk_length mesh lengths walk ≤ loop_length mesh lengths (trees x) e) →
    IsShortestNonseparating mesh lengths walk

-- A loop that is no boundary is a shortest nonseparating cycle where no other such loop is shorter.
abbrev pub LeastLoopsAreShortestCycles : Type 0
LeastLoopsAreShortestCycles =
    (mesh : Mesh) (lengths : List ℕ) (trees : ℕ → Tree) (x l : ℕ) → IsSurface mesh →
    ArePositive mesh lengths → AreShortestTrees mesh lengths trees →
    x < mesh.vertices → l < edge_count mesh → IsEssential mesh (trees x) l →
    ((y e : ℕ) → y < mesh.vertices → e < edge_count mesh → IsEssential mesh (trees y) e →
    loop_length mesh lengths (trees x) l ≤ loop_length mesh lengths (trees y) e) →
    IsShortestNonseparating mesh lengths (loop_walk mesh (trees x) l)

-- Where χ is 2, each simple cycle separates.
abbrev pub CyclesSeparateOnSphere : Type 0
CyclesSeparateOnSphere = (mesh : Mesh) → IsSurface mesh → IsLoopCount mesh 0 → (walk : List ℕ) →
    IsSimpleCycle mesh walk → Separation mesh walk
