-- The line of the first fault in a walk file.
use Rattle.std.specs.Prelude.{ℕ, List, [], ◌∷◌, ◌++◌, codes}
use Prim.Native.String.{String as Literal}
use Rattle.surf_class.specs.declared.fault.WalkFault.{WalkFault}
use Rattle.surf_class.specs.declared.fault.WalkFault.TheVariants.{Empty, Form, NotVertex, NotEdge, Unclosed, Trailing}
use Rattle.surf_class.specs.declared.fault.WalkFault.TheVariants.{Memory}
use Rattle.surf_text.specs.Numbers.{numbered}
use Rattle.surf_texts.specs.Cause.{Cause, due, starved}
use Rattle.surf_texts.specs.Outcome.{refuses}
use Rattle.surf_texts.specs.declared.walks.WalkFile.{WalkFile}
use Rattle.surf_texts.specs.declared.walks.WalkFile.TheVariants.{First, Second}

-- which of the walk files it is
abbrev pub file_words : WalkFile → List ℕ
file_words First = codes "walk 1: "
file_words Second = codes "walk 2: "

abbrev pub walk_told : WalkFile → Literal → List ℕ → Cause
walk_told file words numbers = due (refuses 13 (file_words file ++ numbered (codes words) numbers))

-- the cause that a fault of a walk file is
abbrev pub walk_cause : WalkFile → WalkFault → Cause
walk_cause file Empty = walk_told file "empty" []
walk_cause file (Form place) = walk_told file "form" (place ∷ [])
walk_cause file (NotVertex place) = walk_told file "not-vertex" (place ∷ [])
walk_cause file (NotEdge place) = walk_told file "not-edge" (place ∷ [])
walk_cause file Unclosed = walk_told file "open" []
walk_cause file (Trailing line) = walk_told file "trailing" (line ∷ [])
walk_cause file Memory = starved
