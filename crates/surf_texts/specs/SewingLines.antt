-- The lines of the first fault of copies and of sewing.
use Rattle.std.specs.Prelude.{ℕ, [], ◌∷◌}
use Rattle.surf_texts.specs.Cause.{Cause, due, starved, told}
use Rattle.surf_texts.specs.CountLines.{of_line}
use Rattle.surf_texts.specs.Outcome.{refuses}
use Rattle.surf_sew.specs.declared.copies.CopyFault.{CopyFault}
use Rattle.surf_sew.specs.declared.copies.CopyFault.TheVariants as copies
use Rattle.surf_sew.specs.declared.fault.SewFault.{SewFault}
use Rattle.surf_sew.specs.declared.fault.SewFault.TheVariants.{Gap, Line, FaceRepeat, Memory}

-- the cause that a fault of the copy lines is, where there are so many copies
abbrev pub copy_cause : ℕ → CopyFault → Cause
copy_cause vertices (copies.CopyForm line) = told 14 "sew: copy-form" (line ∷ [])
copy_cause vertices (copies.CopyCount have) = due (refuses 14 (of_line "sew: copy-count " have vertices))
copy_cause vertices copies.Memory = starved

-- the cause that a fault of sewing is
abbrev pub sew_cause : SewFault → Cause
sew_cause (Gap v) = told 14 "sew: gap" (v ∷ [])
sew_cause (Line copy earlier) = told 14 "sew: line" (copy ∷ earlier ∷ [])
sew_cause (FaceRepeat face v) = told 14 "sew: face-repeat" (face ∷ v ∷ [])
sew_cause Memory = starved
