-- A least basis.
use Rattle.std.specs.Prelude.{◌≡◌, ℕ, List, ◌∷◌}
use Rattle.surf_surfaces.specs.Mesh.{Mesh}
use Rattle.surf_surfaces.specs.Choice.{Loop}
use Rattle.surf_surfaces.specs.Places.{IsShortestNotNull}
use Rattle.surf_texts.specs.MeasuredTexts.{measured_text}
use Rattle.surf_texts.specs.Outcome.{Outcome}
use Rattle.surf_answers.specs.Found.{FoundBasis}
use Rattle.surf_answers.specs.Says.{Says}

-- The basis that is chosen, which is least. No closed walk that isn't null is shorter than its first.
pub record GivesBasis (mesh : Mesh) (lengths : List ℕ) (outcome : Outcome) : Type 0 where
  pub found : FoundBasis mesh lengths
  pub shortest : (first : Loop) (rest : List Loop) → found.basis ≡ first ∷ rest →
      IsShortestNotNull mesh lengths first.walk
  pub says : Says (measured_text "cycles " "cycle " found.basis) outcome
