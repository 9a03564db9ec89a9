use Rattle.surf_surfaces.proofs.Common.{◌<◌, ℕ, get_or, face_count}
use Rattle.surf_class.proofs.check.first_outside.Given as goal

-- the faces before are ones of the mesh
abbrev pub invariant-loop-face : goal.invariant-loop-face
invariant-loop-face l = (k : ℕ) → k < l.face-index → get_or l.face-items k 0 < face_count l.mesh
