use Rattle.std.proofs.Common.{◌≡◌, take}
use Rattle.surf_class.proofs.read.as_faces.Given as goal

abbrev pub invariant-loop-number : goal.invariant-loop-number
invariant-loop-number l = l.faces.items ≡ take l.number-index l.numbers
