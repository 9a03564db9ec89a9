-- A mesh as an answer.
use Rattle.surf_surfaces.specs.Mesh.{Mesh}
use Rattle.surf_surfaces.specs.Surface.{edge_count}
use Rattle.surf_off.specs.Written.{soup_text, RereadsSoup}
use Rattle.surf_texts.specs.Outcome.{Outcome}
use Rattle.surf_answers.specs.Says.{Says}

-- The text of the mesh is the answer. Read again without limits, it is that mesh.
pub record GivesMesh (mesh : Mesh) (outcome : Outcome) : Type 0 where
  pub says : Says (soup_text mesh (edge_count mesh)) outcome
  pub rereads : RereadsSoup mesh (edge_count mesh)
