use Rattle.surf_slit.proofs.VertexLabels.{AreLabelledBelow}
use Rattle.surf_slit.proofs.slit.label_all.Given as goal

abbrev pub invariant-loop-v : goal.invariant-loop-v
invariant-loop-v l = AreLabelledBelow l.mesh l.cut l.labels l.v l.count
