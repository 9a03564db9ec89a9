-- The distances and parents of the vertices from a base.
use Rattle.std.specs.Prelude.{ℕ, List}
use Rattle.surf_graphs.specs.Trees.{Tree}
use Rattle.surf_surfaces.specs.Mesh.{Mesh}
use Rattle.surf_surfaces.specs.ShortestTree.{IsShortestTree}
use Rattle.surf_texts.specs.DistanceTexts.{distances_text}
use Rattle.surf_texts.specs.Outcome.{Outcome}
use Rattle.surf_answers.specs.Says.{Says}

-- The least lengths of walks from the base, and the least tight neighbours.
pub record GivesDistances (mesh : Mesh) (lengths : List ℕ) (base : ℕ) (outcome : Outcome) : Type 0 where
  pub tree : Tree
  pub shortest : IsShortestTree mesh lengths base tree
  pub says : Says (distances_text mesh.vertices tree) outcome
