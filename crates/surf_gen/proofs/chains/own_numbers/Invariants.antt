use Rattle.surf_surfaces.proofs.Common.{◌≡◌, range_with_len}
use Rattle.surf_gen.proofs.chains.own_numbers.Given as goal

abbrev pub invariant-loop-v : goal.invariant-loop-v
invariant-loop-v l = l.numbers.items ≡ range_with_len 0 l.v
