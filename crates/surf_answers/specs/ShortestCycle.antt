-- A shortest cycle that doesn't separate a surface.
use Rattle.std.specs.Prelude.{◌≡◌, ◌⊎◌, ℕ, List, codes}
use Rattle.surf_surfaces.specs.Mesh.{Mesh}
use Rattle.surf_surfaces.specs.Walk.{walk_length}
use Rattle.surf_surfaces.specs.Cycle.{IsSimpleCycle, Separation}
use Rattle.surf_surfaces.specs.Places.{IsShortestNotNull}
use Rattle.surf_texts.specs.MeasuredTexts.{measured_line}
use Rattle.surf_texts.specs.Outcome.{Outcome}
use Rattle.surf_answers.specs.Found.{FoundCycle}
use Rattle.surf_answers.specs.Says.{Says}

-- The first candidate for the basis, with its length. No cycle that doesn't separate the surface is shorter, nor is any
-- closed walk that isn't null.
pub record GivesShortest (mesh : Mesh) (lengths : List ℕ) (outcome : Outcome) : Type 0 where
  pub found : FoundCycle mesh lengths
  pub not_null : IsShortestNotNull mesh lengths found.first.walk
  pub size : walk_length mesh lengths found.first.walk ≡ found.first.size
  pub says : Says (measured_line "cycle " found.first.size found.first.walk) outcome

-- Every simple cycle separates the surface.
pub record GivesNone (mesh : Mesh) (outcome : Outcome) : Type 0 where
  pub separate : (walk : List ℕ) → IsSimpleCycle mesh walk → Separation mesh walk
  pub says : Says (codes "none\n") outcome

abbrev pub GivesCycle : Mesh → List ℕ → Outcome → Type 0
GivesCycle mesh lengths outcome = GivesShortest mesh lengths outcome ⊎ GivesNone mesh outcome
