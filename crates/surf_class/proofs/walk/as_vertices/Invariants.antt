use Rattle.std.proofs.Common.{◌≡◌, take}
use Rattle.surf_class.proofs.walk.as_vertices.Given as goal

abbrev pub invariant-loop-number : goal.invariant-loop-number
invariant-loop-number l = l.vertices.items ≡ take l.number-index l.numbers
