use Rattle.surf_cotree.proofs.Common.{count_below, dual, face_count, cells_of, outside, IsMarking}
use Rattle.surf_cotree.proofs.edges.mark_span.Given as goal

abbrev pub invariant-loop-face : goal.invariant-loop-face
invariant-loop-face gen l = IsMarking (dual (cells_of l.mesh)) (outside l.initial.marks) (gen.W.Weights.weight l.weight) l.marks l.there l.heap

abbrev pub decreases-loop-face : goal.decreases-loop-face
decreases-loop-face gen l = count_below (face_count l.mesh) (outside l.there)
