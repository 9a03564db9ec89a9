use Rattle.surf_cert.proofs.Common.{take, face_count}
use Rattle.surf_class.proofs.Common.{AreFlags, is_listed}
use Rattle.surf_class.proofs.check.face_flags.Given as goal

-- the faces before
abbrev pub invariant-loop-i : goal.invariant-loop-i
invariant-loop-i l = AreFlags (face_count l.mesh) (is_listed (take l.i l.faces)) l.flags.items
