use Rattle.std.proofs.Common.{◌≡◌, take}
use Rattle.surf_soup.proofs.vertices.vertex_numbers.Given as goal

abbrev pub invariant-loop-corner : goal.invariant-loop-corner
invariant-loop-corner l = l.numbers.items ≡ take l.corner-index l.corners
