-- The line of the first fault in a length file.
use Rattle.std.specs.Prelude.{[], ◌∷◌}
use Rattle.surf_lengths.specs.declared.fault.LengthFault.{LengthFault}
use Rattle.surf_lengths.specs.declared.fault.LengthFault.TheVariants.{Form, Range, NotEdge, Twice, Missing, Memory}
use Rattle.surf_texts.specs.Cause.{Cause, starved, told}

-- the cause that a fault of a length file is
abbrev pub length_cause : LengthFault → Cause
length_cause (Form line) = told 5 "lengths: form" (line ∷ [])
length_cause (Range line) = told 5 "lengths: range" (line ∷ [])
length_cause (NotEdge line) = told 5 "lengths: not-edge" (line ∷ [])
length_cause (Twice line earlier) = told 5 "lengths: twice" (line ∷ earlier ∷ [])
length_cause (Missing u v) = told 5 "lengths: missing" (u ∷ v ∷ [])
length_cause Memory = starved
