-- A sewn surface as an answer.
use Rattle.std.specs.Prelude.{ℕ, List}
use Rattle.surf_surfaces.specs.Mesh.{Mesh}
use Rattle.surf_off.specs.Off.{OffParts}
use Rattle.surf_sew.specs.Texts.{sewn_text, RereadsSewn}
use Rattle.surf_texts.specs.Outcome.{Outcome}
use Rattle.surf_answers.specs.Says.{Says}

-- The sewn surface is written with the keyword, the colours and the vertex lines of its copies. Read again, the text
-- has them and the surface.
pub record GivesSewn (parts : OffParts) (origins : List ℕ) (mesh : Mesh) (outcome : Outcome) : Type 0 where
  pub says : Says (sewn_text parts origins mesh) outcome
  pub rereads : RereadsSewn parts origins mesh
