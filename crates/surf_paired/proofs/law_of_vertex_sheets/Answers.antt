use Rattle.surf_paired.proofs.VertexSheets.{vertices_are_sheets}
use Rattle.surf_paired.proofs.law_of_vertex_sheets.Goals as goal

pub returns : goal.returns
returns c = record { sheets = vertices_are_sheets }
