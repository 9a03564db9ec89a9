-- Least lengths of walks.
use Rattle.std.specs.Prelude.{◌≡◌, ℕ, ◌≤◌, List}
use Rattle.surf_surfaces.specs.Mesh.{Mesh}
use Rattle.surf_surfaces.specs.Walk.{IsWalk, first, last, walk_length}

-- a walk from one vertex to another
pub record LeadsFrom (mesh : Mesh) (from to : ℕ) (walk : List ℕ) : Type 0 where
  pub is_walk : IsWalk mesh walk
  pub begins : first walk ≡ from
  pub ends : last walk ≡ to

-- some walk between the vertices has this length, and none is shorter
pub record IsDistance (mesh : Mesh) (lengths : List ℕ) (from to distance : ℕ) : Type 0 where
  pub reached : (walk : List ℕ) × LeadsFrom mesh from to walk × (walk_length mesh lengths walk ≡ distance)
  pub least : (walk : List ℕ) → LeadsFrom mesh from to walk → distance ≤ walk_length mesh lengths walk
