-- A least system of loops at a base.
use Rattle.std.specs.Prelude.{ℕ, List}
use Rattle.surf_surfaces.specs.Mesh.{Mesh}
use Rattle.surf_surfaces.specs.Choice.{loops_at}
use Rattle.surf_texts.specs.MeasuredTexts.{measured_text}
use Rattle.surf_texts.specs.Outcome.{Outcome}
use Rattle.surf_answers.specs.Found.{FoundLoops}
use Rattle.surf_answers.specs.Says.{Says}

-- The loops that are chosen at the base, which are least.
pub record GivesLoops (mesh : Mesh) (lengths : List ℕ) (base : ℕ) (outcome : Outcome) : Type 0 where
  pub found : FoundLoops mesh lengths base
  pub says : Says (measured_text "loops " "loop " (loops_at mesh lengths base found.trees)) outcome
