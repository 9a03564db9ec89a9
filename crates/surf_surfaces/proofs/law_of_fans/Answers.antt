use Rattle.surf_surfaces.proofs.meshes.FanLaws.{fans_are_whole, listed_faces_are_fan}
use Rattle.surf_surfaces.proofs.law_of_fans.Goals as goal

pub returns : goal.returns
returns c = record { whole = fans_are_whole; listed = listed_faces_are_fan }
