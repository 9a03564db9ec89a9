-- The lines of evidence: of the first fault in its text, that it is right, and what is wrong with it.
use Rattle.std.specs.Prelude.{ℕ, List, [], ◌∷◌, codes}
use Rattle.surf_class.specs.declared.fault.ClassFault.{ClassFault}
use Rattle.surf_class.specs.declared.fault.ClassFault.TheVariants.{Face, Boundary, Pair, OddFace, Even, Memory}
use Rattle.surf_class.specs.declared.fault.EvidenceFault.{EvidenceFault}
use Rattle.surf_class.specs.declared.fault.EvidenceFault.TheVariants as text
use Rattle.surf_classes.specs.Evidence.{Evidence, null_faces, odd_pairs}
use Rattle.surf_text.specs.Numbers.{numbered}
use Rattle.surf_texts.specs.Cause.{Cause, starved, told}

-- the cause that a fault in the text of evidence is
abbrev pub evidence_cause : EvidenceFault → Cause
evidence_cause (text.Header line) = told 8 "certificate text: header" (line ∷ [])
evidence_cause (text.Form line) = told 8 "certificate text: form" (line ∷ [])
evidence_cause (text.Trailing line) = told 8 "certificate text: trailing" (line ∷ [])
evidence_cause text.Memory = starved

-- which kind of evidence is right
abbrev pub right_line : Evidence → List ℕ
right_line (null_faces faces) = codes "valid null\n"
right_line (odd_pairs pairs) = codes "valid odd\n"

-- what is wrong. Want of memory is no answer
abbrev pub wrong_line : ClassFault → List ℕ
wrong_line (Face f) = numbered (codes "no face") (f ∷ [])
wrong_line (Boundary u v) = numbered (codes "no boundary") (u ∷ v ∷ [])
wrong_line (Pair u v) = numbered (codes "no pair") (u ∷ v ∷ [])
wrong_line (OddFace f) = numbered (codes "no odd-face") (f ∷ [])
wrong_line Even = codes "no even\n"
wrong_line Memory = []
