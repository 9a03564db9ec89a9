-- The line of the first fault in the text of a mesh.
use Rattle.std.specs.Prelude.{[], ◌∷◌}
use Rattle.surf_off.specs.declared.fault.OffFault.{OffFault}
use Rattle.surf_off.specs.declared.fault.OffFault.TheVariants.{Header, Counts, VertexLine, FaceSize, FaceIndex}
use Rattle.surf_off.specs.declared.fault.OffFault.TheVariants.{FaceRepeat, Early, Trailing, Limit, Memory}
use Rattle.surf_texts.specs.Cause.{Cause, due, starved, told}
use Rattle.surf_texts.specs.Limits.{beyond}

-- the cause that a fault is
abbrev pub off_cause : OffFault → Cause
off_cause (Header line) = told 3 "mesh text: header" (line ∷ [])
off_cause (Counts line) = told 3 "mesh text: counts" (line ∷ [])
off_cause (VertexLine line) = told 3 "mesh text: vertex-line" (line ∷ [])
off_cause (FaceSize line) = told 3 "mesh text: face-size" (line ∷ [])
off_cause (FaceIndex line place) = told 3 "mesh text: face-index" (line ∷ place ∷ [])
off_cause (FaceRepeat line vertex) = told 3 "mesh text: face-repeat" (line ∷ vertex ∷ [])
off_cause (Early missing) = told 3 "mesh text: early" (missing ∷ [])
off_cause (Trailing line) = told 3 "mesh text: trailing" (line ∷ [])
off_cause (Limit line kind) = due (beyond kind)
off_cause Memory = starved
