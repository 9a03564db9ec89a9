-- A shortest walk in the class of a walk as an answer.
use Rattle.std.specs.Prelude.{ℕ, List}
use Rattle.surf_classes.specs.Shortest.{IsChosenWalk}
use Rattle.surf_surfaces.specs.Mesh.{Mesh}
use Rattle.surf_surfaces.specs.Walk.{walk_length}
use Rattle.surf_texts.specs.MeasuredTexts.{measured_line}
use Rattle.surf_texts.specs.Outcome.{Outcome}
use Rattle.surf_answers.specs.Says.{Says}

-- The walk that is chosen of the shortest in the class of a walk, with its length.
pub record GivesShortestWalk (mesh : Mesh) (lengths walk : List ℕ) (outcome : Outcome) : Type 0 where
  pub found : List ℕ
  pub chosen : IsChosenWalk mesh lengths walk found
  pub says : Says (measured_line "shortest " (walk_length mesh lengths found) found) outcome
