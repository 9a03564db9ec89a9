use Rattle.surf_graphs.proofs.CellLaws.{face_zero}
use Rattle.surf_graphs.proofs.law_of_sums_of_faces.Goals as goal

pub returns : goal.returns
returns c = face_zero
