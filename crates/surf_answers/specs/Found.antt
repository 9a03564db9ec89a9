-- What is found on a surface with lengths: the loops at a base, the basis and the cycle that are chosen.
use Rattle.std.specs.Prelude.{◌≡◌, ℕ, List, ◌∷◌}
use Rattle.surf_surfaces.specs.Mesh.{Mesh}
use Rattle.surf_surfaces.specs.Cycle.{IsShortestNonseparating}
use Rattle.surf_surfaces.specs.Choice.{Trees, AreChosenAt, AreChosen, Loop, candidates, IsChosenBasis}
use Rattle.surf_surfaces.specs.ChoiceLaws.{LoopsAtBase, LeastSimpleBasis}

-- The trees that are chosen at the base. Their loops are a least loop system there, each with its length, in their
-- order: 2 − χ closed walks at the base, independent, and no independent closed walks there are shorter, in total and
-- place by place.
pub record FoundLoops (mesh : Mesh) (lengths : List ℕ) (base : ℕ) : Type 0 where
  pub trees : Trees
  pub chosen : AreChosenAt mesh lengths base trees
  pub least : LoopsAtBase mesh lengths base trees

-- The basis that is chosen from the loops at all vertices. It is a least basis of simple cycles, each with its length:
-- 2 − χ closed walks, independent, and no independent closed walks are shorter, in total and place by place.
pub record FoundBasis (mesh : Mesh) (lengths : List ℕ) : Type 0 where
  pub trees : ℕ → Trees
  pub chosen : AreChosen mesh lengths trees
  pub basis : List Loop
  pub is_basis : IsChosenBasis mesh lengths trees basis
  pub least : LeastSimpleBasis mesh lengths basis

-- The first candidate for the basis: a simple cycle that doesn't separate the surface, and no such cycle is shorter.
pub record FoundCycle (mesh : Mesh) (lengths : List ℕ) : Type 0 where
  pub trees : ℕ → Trees
  pub chosen : AreChosen mesh lengths trees
  pub first : Loop
  pub rest : List Loop
  pub is_first : candidates mesh lengths trees ≡ first ∷ rest
  pub shortest : IsShortestNonseparating mesh lengths first.walk
