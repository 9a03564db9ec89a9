-- The counts of a surface, its characteristic, and its genus or its crosscaps.
use Rattle.std.specs.Prelude.{◌≡◌, ℕ, ◌*◌, ◌⊎◌, ◌++◌}
use Rattle.surf_surfaces.specs.Mesh.{Mesh, characteristic}
use Rattle.surf_surfaces.specs.Surface.{IsOrientable}
use Rattle.surf_surfaces.specs.Homology.{IsLoopCount}
use Rattle.surf_texts.specs.Outcome.{Outcome, answers}
use Rattle.surf_texts.specs.SummaryTexts.{kind_text, mesh_counts}

-- a two-sided surface of a genus: twice the genus is two less the characteristic
pub record HasGenus (mesh : Mesh) (outcome : Outcome) : Type 0 where
  pub two_sided : IsOrientable mesh
  pub genus : ℕ
  pub twice : IsLoopCount mesh (2 * genus)
  pub text : outcome ≡ answers 0 (mesh_counts mesh ++ kind_text "\ngenus " (characteristic mesh) genus)

-- a one-sided surface of a number of crosscaps: two less the characteristic
pub record HasCrosscaps (mesh : Mesh) (outcome : Outcome) : Type 0 where
  pub one_sided : IsOrientable mesh → ⊥
  pub crosscaps : ℕ
  pub count : IsLoopCount mesh crosscaps
  pub text : outcome ≡ answers 0 (mesh_counts mesh ++ kind_text "\ncrosscaps " (characteristic mesh) crosscaps)

abbrev pub Informs : Mesh → Outcome → Type 0
Informs mesh outcome = HasGenus mesh outcome ⊎ HasCrosscaps mesh outcome
