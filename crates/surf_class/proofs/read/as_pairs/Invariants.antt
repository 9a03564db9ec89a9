use Rattle.std.proofs.Common.{◌≡◌, take}
use Rattle.surf_class.specs.Evidences.{two_by_two}
use Rattle.surf_class.proofs.read.as_pairs.Given as goal

abbrev pub invariant-loop-i : goal.invariant-loop-i
invariant-loop-i l = l.pairs.items ≡ take l.i (two_by_two l.numbers)
