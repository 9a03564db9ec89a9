use Rattle.surf_cert.proofs.Common.{take, Ok, flat_map, zip, Puts, face_line}
use Rattle.surf_cert.proofs.write.write_faces.Given as goal

abbrev pub invariant-loop-f : goal.invariant-loop-f
invariant-loop-f l = Puts {A = Unit {0}} l.fn.page l.page (flat_map face_line (take l.f (zip l.dual.depth l.dual.side))) (Ok tt)
