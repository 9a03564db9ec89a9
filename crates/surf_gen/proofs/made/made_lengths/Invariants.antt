use Rattle.surf_surfaces.proofs.Common.{◌≡◌, map, range_with_len}
use Rattle.surf_gen.specs.Made.{made_length}
use Rattle.surf_gen.proofs.made.made_lengths.Given as goal

abbrev pub invariant-loop-edge : goal.invariant-loop-edge
invariant-loop-edge l = l.values.items ≡ map (made_length l.scatter) (range_with_len 0 l.edge)
