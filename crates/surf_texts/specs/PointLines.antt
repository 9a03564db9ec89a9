-- The lines of the first fault of a file of vertices, and of a cut through them.
use Rattle.std.specs.Prelude.{[], ◌∷◌}
use Rattle.surf_class.specs.declared.points.PointFault.{PointFault}
use Rattle.surf_class.specs.declared.points.PointFault.TheVariants.{Empty, Form, NotVertex, Trailing, Memory}
use Rattle.surf_texts.specs.Cause.{Cause, starved, told}

-- the cause that a fault of a file of vertices is
abbrev pub point_cause : PointFault → Cause
point_cause Empty = told 15 "vertices: empty" []
point_cause (Form place) = told 15 "vertices: form" (place ∷ [])
point_cause (NotVertex place) = told 15 "vertices: not-vertex" (place ∷ [])
point_cause (Trailing line) = told 15 "vertices: trailing" (line ∷ [])
point_cause Memory = starved

-- the cause where the cut through vertices has fewer than two edges
abbrev pub near_cause : Cause
near_cause = told 15 "vertices: near" []
