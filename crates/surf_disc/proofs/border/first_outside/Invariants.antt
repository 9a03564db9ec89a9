use Rattle.surf_disc.specs.Border.{AllInside}
use Rattle.surf_disc.proofs.border.first_outside.Given as goal

abbrev pub invariant-loop-e : goal.invariant-loop-e
invariant-loop-e l = AllInside l.sides l.edges l.seen l.e
