-- What holds of the choice among ties.
use Rattle.std.specs.Prelude.{◌≡◌, ℕ, ◌+◌, ◌<◌, ◌↔◌, List, ◌∷◌, length, All}
use Rattle.surf_z2.specs.Order.{IsInOrder}
use Rattle.surf_graphs.specs.Cells.{primal}
use Rattle.surf_graphs.specs.Trees.{Tree, IsTree}
use Rattle.surf_surfaces.specs.Mesh.{Mesh}
use Rattle.surf_surfaces.specs.Surface.{face_count, edge_count, IsSurface}
use Rattle.surf_surfaces.specs.Walk.{IsClosedAt, walk_length, ArePositive}
use Rattle.surf_surfaces.specs.Homology.{IsLoopCount, IsLeastLoopSystem, IsLeastBasis}
use Rattle.surf_surfaces.specs.Cycle.{IsSimpleCycle, Separation, IsShortestNonseparating}
use Rattle.surf_surfaces.specs.Places.{IsLeastLoopSystemInOrder, IsLeastBasisInOrder}
use Rattle.surf_surfaces.specs.Cells.{cells_of}
use Rattle.surf_surfaces.specs.Loop.{loop_walk}
use Rattle.surf_surfaces.specs.Choice.{Trees, AreChosenAt, AreChosen, Loop, comes_before, walks, loops_at, candidates}
use Rattle.surf_surfaces.specs.Choice.{IsChosenBasis, IsKeptFrom}

-- the loops at a base are a least loop system there, in total and place by place, each with its length, in order
pub record LoopsAtBase (mesh : Mesh) (lengths : List ℕ) (base : ℕ) (trees : Trees) : Type 0 where
  pub least : IsLeastLoopSystem mesh lengths base (walks (loops_at mesh lengths base trees))
  pub least_in_order : IsLeastLoopSystemInOrder mesh lengths base (walks (loops_at mesh lengths base trees))
  pub sizes : All (λ c. walk_length mesh lengths c.walk ≡ c.size) (loops_at mesh lengths base trees)
  pub in_order : IsInOrder comes_before (loops_at mesh lengths base trees)

-- The loops that are chosen at a base are a least loop system there, in total and place by place,
-- in order, each with its length.
abbrev pub LoopsAreLeast : Type 0
LoopsAreLeast =
    (mesh : Mesh) (lengths : List ℕ) (base : ℕ) (trees : Trees) → IsSurface mesh → ArePositive mesh lengths →
    AreChosenAt mesh lengths base trees →
    LoopsAtBase mesh lengths base trees

-- the loops are a least basis, in total and place by place, of simple cycles, each with its length
pub record LeastSimpleBasis (mesh : Mesh) (lengths : List ℕ) (basis : List Loop) : Type 0 where
  pub least : IsLeastBasis mesh lengths (walks basis)
  pub least_in_order : IsLeastBasisInOrder mesh lengths (walks basis)
  pub simple : All (IsSimpleCycle mesh) (walks basis)
  pub sizes : All (λ c. walk_length mesh lengths c.walk ≡ c.size) basis

-- The chosen basis is a least basis, in total and place by place, of simple cycles, each with its
-- length.
abbrev pub BasisIsLeast : Type 0
BasisIsLeast =
    (mesh : Mesh) (lengths : List ℕ) (trees : ℕ → Trees) (basis : List Loop) → IsSurface mesh →
    ArePositive mesh lengths → AreChosen mesh lengths trees →
    IsChosenBasis mesh lengths trees basis → LeastSimpleBasis mesh lengths basis

-- There is one chosen basis for given trees.
abbrev pub BasisIsOne : Type 0
BasisIsOne =
    (mesh : Mesh) (lengths : List ℕ) (trees : ℕ → Trees) → IsSurface mesh → ArePositive mesh lengths →
    AreChosen mesh lengths trees →
    (basis : List Loop) × IsChosenBasis mesh lengths trees basis
    × ((other : List Loop) → IsChosenBasis mesh lengths trees other → other ≡ basis)

-- What is kept base by base is the basis.
abbrev pub BasisIsKeptBaseByBase : Type 0
BasisIsKeptBaseByBase =
    (mesh : Mesh) (lengths : List ℕ) (trees : ℕ → Trees) (kept : List Loop) → IsSurface mesh →
    ArePositive mesh lengths → AreChosen mesh lengths trees →
    IsKeptFrom mesh lengths trees mesh.vertices kept → IsChosenBasis mesh lengths trees kept

-- The first candidate is a shortest nonseparating cycle.
abbrev pub FirstIsShortest : Type 0
FirstIsShortest =
    (mesh : Mesh) (lengths : List ℕ) (trees : ℕ → Trees) (first : Loop) (rest : List Loop) → IsSurface mesh →
    ArePositive mesh lengths →
    AreChosen mesh lengths trees → candidates mesh lengths trees ≡ first ∷ rest →
    IsShortestNonseparating mesh lengths first.walk × (walk_length mesh lengths first.walk ≡ first.size)

-- There is a candidate exactly where χ is below 2.
abbrev pub CandidatesBelowTwo : Type 0
CandidatesBelowTwo =
    (mesh : Mesh) (lengths : List ℕ) (trees : ℕ → Trees) → IsSurface mesh → ArePositive mesh lengths →
    AreChosen mesh lengths trees →
    (0 < length (candidates mesh lengths trees)) ↔ (mesh.vertices + face_count mesh < edge_count mesh + 2)

-- Every simple cycle separates exactly where χ is 2.
abbrev pub SimpleCyclesSeparate : Type 0
SimpleCyclesSeparate = (mesh : Mesh) → IsSurface mesh →
    ((walk : List ℕ) → IsSimpleCycle mesh walk → Separation mesh walk) ↔ IsLoopCount mesh 0

-- The trees that are chosen exist at every base.
abbrev pub ChoiceExists : Type 0
ChoiceExists = (mesh : Mesh) (lengths : List ℕ) → IsSurface mesh → ArePositive mesh lengths →
    (trees : ℕ → Trees) × AreChosen mesh lengths trees

-- In any tree of the vertices, shortest or not, the loop of an edge is a closed walk at the root.
abbrev pub LoopsAreClosed : Type 0
LoopsAreClosed =
    (mesh : Mesh) (tree : Tree) → IsSurface mesh → IsTree (primal (cells_of mesh)) tree → (e : ℕ) →
    e < edge_count mesh → IsClosedAt mesh tree.root (loop_walk mesh tree e)

-- The loops at a base are one list, whichever trees show it.
abbrev pub LoopsAreOne : Type 0
LoopsAreOne =
    (mesh : Mesh) (lengths : List ℕ) (base : ℕ) (a b : Trees) → IsSurface mesh → ArePositive mesh lengths →
    AreChosenAt mesh lengths base a → AreChosenAt mesh lengths base b →
    loops_at mesh lengths base a ≡ loops_at mesh lengths base b

-- The candidates are one list, and the first cycle is one, whichever trees show them.
abbrev pub CandidatesAreOne : Type 0
CandidatesAreOne =
    (mesh : Mesh) (lengths : List ℕ) (a b : ℕ → Trees) → IsSurface mesh → ArePositive mesh lengths →
    AreChosen mesh lengths a → AreChosen mesh lengths b → candidates mesh lengths a ≡ candidates mesh lengths b

-- The chosen basis is one, whichever trees show it.
abbrev pub BasesAreOne : Type 0
BasesAreOne =
    (mesh : Mesh) (lengths : List ℕ) (a b : ℕ → Trees) (basis other : List Loop) → IsSurface mesh →
    ArePositive mesh lengths → AreChosen mesh lengths a → AreChosen mesh lengths b →
    IsChosenBasis mesh lengths a basis → IsChosenBasis mesh lengths b other → basis ≡ other
