use Rattle.surf_surfaces.proofs.Common.{◌≡◌, range_with_len}
use Rattle.surf_certcheck.proofs.sums.all_vertices.Given as goal

abbrev pub invariant-loop-v : goal.invariant-loop-v
invariant-loop-v l = l.all.items ≡ range_with_len 0 l.v
