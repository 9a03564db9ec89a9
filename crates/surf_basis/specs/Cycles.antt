-- Cycles of a surface as loops of the choice among ties.
use Rattle.std.specs.Prelude.{ℕ, ◌≡◌, List, [], ◌∷◌, map, Option, Some, None}
use Rattle.std.specs.Option.{option_map}
use Rattle.surf_surfaces.specs.Mesh.{Mesh}
use Rattle.surf_surfaces.specs.Walk.{walk_length}
use Rattle.surf_surfaces.specs.Cycle.{IsSimpleCycle, Separation, IsShortestNonseparating}
use Rattle.surf_surfaces.specs.Choice.{Trees, AreChosen, Loop, candidates, IsChosenBasis}
use Rattle.surf_basis.specs.declared.cycle.Cycle.{Cycle}

-- a cycle as a loop of the choice
abbrev pub as_loop : Cycle → Loop
as_loop c = record { size = c.length; base = c.base; edge = c.edge; walk = c.walk }

-- cycles as loops
abbrev pub as_loops : List Cycle → List Loop
as_loops cycles = map as_loop cycles

-- the loops are the basis that is chosen, whichever trees show the choice
abbrev pub IsTheBasis : Mesh → List ℕ → List Loop → Type 0
IsTheBasis mesh lengths basis =
    (trees : ℕ → Trees) → AreChosen mesh lengths trees → IsChosenBasis mesh lengths trees basis

-- the first of a list, if it has one
abbrev pub first_of : {X : Type 0} → List X → Option X
first_of [] = None
first_of (x ∷ rest) = Some x

-- the first candidate for the basis, if there is one, whichever trees show the choice
abbrev pub IsFirstCandidate : Mesh → List ℕ → Option Cycle → Type 0
IsFirstCandidate mesh lengths found =
    (trees : ℕ → Trees) → AreChosen mesh lengths trees →
    option_map as_loop found ≡ first_of (candidates mesh lengths trees)

-- a simple cycle that doesn't separate the surface, such that none is shorter, with its length
pub record IsShortestCycle (mesh : Mesh) (lengths : List ℕ) (cycle : Cycle) : Type 0 where
  pub shortest : IsShortestNonseparating mesh lengths cycle.walk
  pub size : walk_length mesh lengths cycle.walk ≡ cycle.length

-- every simple cycle separates the surface
abbrev pub AllSeparate : Mesh → Type 0
AllSeparate mesh = (walk : List ℕ) → IsSimpleCycle mesh walk → Separation mesh walk
