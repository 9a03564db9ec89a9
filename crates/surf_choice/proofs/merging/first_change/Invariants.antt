use Rattle.surf_choice.proofs.Changed.{IsPassing}
use Rattle.surf_choice.proofs.merging.first_change.Given as goal

abbrev pub invariant-loop-fresh : goal.invariant-loop-fresh
invariant-loop-fresh l = IsPassing l.kept l.offered l.place l.fresh
