use Rattle.surf_surfaces.proofs.Common.{◌≡◌, range_with_len}
use Rattle.surf_soup.proofs.forest.lone_numbers.Given as goal

abbrev pub invariant-loop-number : goal.invariant-loop-number
invariant-loop-number l = l.parents.items ≡ range_with_len 0 l.number
