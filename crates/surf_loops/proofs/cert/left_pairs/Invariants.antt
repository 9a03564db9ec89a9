use Rattle.surf_surfaces.proofs.Common.{◌≡◌, map, take, ends}
use Rattle.surf_loops.proofs.cert.left_pairs.Given as goal

-- the pairs of the edges so far
abbrev pub invariant-loop-edge : goal.invariant-loop-edge
invariant-loop-edge l = l.pairs.items ≡ map (ends l.mesh) (take l.edge-index l.left)
