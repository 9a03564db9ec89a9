-- Closed walks of one class, the shortest of them, and the one that is chosen.
use Rattle.std.specs.Prelude.{◌≡◌, ℕ, ◌≤◌, List, ◌∷◌, ◌++◌}
use Rattle.surf_z2.specs.Space.{difference}
use Rattle.surf_surfaces.specs.Mesh.{Mesh}
use Rattle.surf_surfaces.specs.Walk.{IsClosed, first, parity, walk_length}
use Rattle.surf_surfaces.specs.Homology.{IsBoundary}

-- the edges that exactly one of the walks runs an odd number of times are a boundary
abbrev pub AreHomologous : Mesh → List ℕ → List ℕ → Type 0
AreHomologous mesh walk other = IsBoundary mesh (difference (parity mesh walk) (parity mesh other))

-- a closed walk in the class of a walk
pub record IsInClass (mesh : Mesh) (walk other : List ℕ) : Type 0 where
  pub closed : IsClosed mesh other
  pub homologous : AreHomologous mesh walk other

-- no walk in the class is shorter
pub record IsShortestInClass (mesh : Mesh) (lengths walk other : List ℕ) : Type 0 where
  pub in_class : IsInClass mesh walk other
  pub shortest : (third : List ℕ) → IsInClass mesh walk third →
      walk_length mesh lengths other ≤ walk_length mesh lengths third

-- of the shortest walks in the class of a walk, the one that is chosen. Its first vertex, which is also
-- its last, is the least at which one begins. The others are chosen from the end backwards: each is the
-- least that stands just before the part after it on one that begins at that first vertex and ends with
-- the part
pub record IsChosenWalk (mesh : Mesh) (lengths walk chosen : List ℕ) : Type 0 where
  pub shortest : IsShortestInClass mesh lengths walk chosen
  pub least_first : (other : List ℕ) → IsShortestInClass mesh lengths walk other → first chosen ≤ first other
  pub least_before : (before other part : List ℕ) (u v : ℕ) → chosen ≡ before ++ u ∷ part →
      IsShortestInClass mesh lengths walk (other ++ v ∷ part) → first (other ++ v ∷ part) ≡ first chosen →
      u ≤ v
