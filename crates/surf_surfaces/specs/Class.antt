-- Walks as vectors: the signatures of their parities, as numbers.
use Rattle.std.specs.Prelude.{◌≡◌, ℕ, ◌<◌, ◌↔◌, List, map, All, IsPermutation}
use Rattle.surf_z2.specs.Space.{Chain, Weighed, numbers, Independent}
use Rattle.surf_graphs.specs.Cells.{Split, IsSplit, IsHeaviest, primal}
use Rattle.surf_graphs.specs.Independence.{signature_of, IsCovering}
use Rattle.surf_graphs.specs.Trees.{Tree, IsTree, IsShortest}
use Rattle.surf_surfaces.specs.Mesh.{Mesh}
use Rattle.surf_surfaces.specs.Surface.{IsSurface}
use Rattle.surf_surfaces.specs.Walk.{IsClosed, edge_length, parity, walk_length}
use Rattle.surf_surfaces.specs.Homology.{IsIndependent, IsNull, IsBasis, IsLeastBasis, IsLeastLoopSystem}
use Rattle.surf_surfaces.specs.Cells.{cells_of}
use Rattle.surf_surfaces.specs.Loop.{loop_walk}

-- the signature of a walk's parity
abbrev pub class_of : Mesh → Split → List ℕ → ℕ
class_of mesh d walk = signature_of (cells_of mesh) d (parity mesh walk)

-- a walk's parity with its length
abbrev pub weighed_walk : Mesh → List ℕ → List ℕ → Weighed Chain
weighed_walk mesh lengths walk = record { weight = walk_length mesh lengths walk; vector = parity mesh walk }

-- A closed walk is null exactly where its class is zero.
abbrev pub NullByClass : Type 0
NullByClass =
    (mesh : Mesh) (d : Split) → IsSurface mesh → IsSplit (cells_of mesh) d → (walk : List ℕ) →
    IsClosed mesh walk →
    IsNull mesh walk ↔ (class_of mesh d walk ≡ 0)

-- Closed walks are independent exactly where their classes are.
abbrev pub IndependentByClasses : Type 0
IndependentByClasses =
    (mesh : Mesh) (d : Split) → IsSurface mesh → IsSplit (cells_of mesh) d → (walks : List (List ℕ)) →
    All (IsClosed mesh) walks →
    IsIndependent mesh walks ↔ Independent numbers (map (class_of mesh d) walks)

-- a shortest tree at each vertex
pub record AreShortestTrees (mesh : Mesh) (lengths : List ℕ) (trees : ℕ → Tree) : Type 0 where
  pub root : (x : ℕ) → x < mesh.vertices → (trees x).root ≡ x
  pub is_tree : (x : ℕ) → x < mesh.vertices → IsTree (primal (cells_of mesh)) (trees x)
  pub shortest : (x : ℕ) → x < mesh.vertices →
      IsShortest (primal (cells_of mesh)) (edge_length lengths) (trees x)

-- Where the tree is shortest and the cotree heaviest, the loops of the left edges, in any order,
-- are a least loop system at the root.
abbrev pub LeftLoopsAreLeast : Type 0
LeftLoopsAreLeast =
    (mesh : Mesh) (lengths : List ℕ) (d : Split) (left : List ℕ) → IsSurface mesh →
    IsSplit (cells_of mesh) d →
    IsShortest (primal (cells_of mesh)) (edge_length lengths) d.tree →
    IsHeaviest (cells_of mesh) (edge_length lengths) d →
    IsPermutation d.left left → IsLeastLoopSystem mesh lengths d.tree.root (map (loop_walk mesh d.tree) left)

-- A basis is least where the class of each loop through a shortest tree is a sum of those of
-- members that are no longer.
abbrev pub CoveringBasesAreLeast : Type 0
CoveringBasesAreLeast =
    (mesh : Mesh) (lengths : List ℕ) (d : Split) (trees : ℕ → Tree) (walks : List (List ℕ)) → IsSurface mesh →
    IsSplit (cells_of mesh) d →
    AreShortestTrees mesh lengths trees → IsBasis mesh walks →
    IsCovering (cells_of mesh) (edge_length lengths) d trees (map (weighed_walk mesh lengths) walks) →
    IsLeastBasis mesh lengths walks
