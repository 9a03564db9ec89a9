use Rattle.surf_sew.proofs.Common.{take, Ok, zip, Puts, faces_text}
use Rattle.surf_sew.proofs.write.write_faces.Given as goal

abbrev pub invariant-loop-f : goal.invariant-loop-f
invariant-loop-f l = Puts {A = Unit {0}} l.fn.page l.page (faces_text (take l.f (zip l.mesh.faces l.text.colours))) (Ok tt)
