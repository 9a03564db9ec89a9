-- The lengths of edges from coordinates, and as an answer.
use Rattle.std.specs.Prelude.{◌≡◌, ℕ, List, Result, Ok}
use Rattle.surf_surfaces.specs.Mesh.{Mesh}
use Rattle.surf_geom.specs.Measures.{measures_in}
use Rattle.surf_geom.specs.Texts.{lengths_text}
use Rattle.surf_lengths.specs.Files.{lengths_in}
use Rattle.surf_off.specs.Off.{OffParts}
use Rattle.surf_texts.specs.Cause.{refused_by}
use Rattle.surf_texts.specs.Outcome.{Outcome}
use Rattle.surf_texts.specs.Refusals.{geom_cause}
use Rattle.surf_answers.specs.Says.{Says}

-- The coordinates of a surface measure its edges, in units of so many decimals.
abbrev pub Measures : ℕ → OffParts × Mesh → Result (List ℕ) Outcome → Type 0
Measures decimals read result = result ≡ refused_by geom_cause (measures_in read.1 read.0.vertex_lines decimals)

-- The measures are written as a length file, which gives them when it is read for this mesh.
pub record GivesLengths (mesh : Mesh) (lengths : List ℕ) (outcome : Outcome) : Type 0 where
  pub says : Says (lengths_text mesh lengths) outcome
  pub reads_back : lengths_in mesh (lengths_text mesh lengths) ≡ Ok lengths
