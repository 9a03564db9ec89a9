use Rattle.surf_cutter.specs.Faces.{AreRenumberedTo}
use Rattle.surf_cutter.proofs.copies.renumber.Given as goal

abbrev pub invariant-loop-label : goal.invariant-loop-label
invariant-loop-label l = AreRenumberedTo l.initial.labels l.numbers l.label-index l.labels
