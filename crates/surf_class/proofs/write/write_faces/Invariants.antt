use Rattle.surf_cert.proofs.Common.{take, Ok, Puts, numbers_text}
use Rattle.surf_class.proofs.write.write_faces.Given as goal

abbrev pub invariant-loop-face : goal.invariant-loop-face
invariant-loop-face l = Puts {A = Unit {0}} l.fn.page l.page (numbers_text (take l.face-index l.faces)) (Ok tt)
