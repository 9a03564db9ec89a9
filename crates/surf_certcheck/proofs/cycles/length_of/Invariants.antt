use Rattle.surf_surfaces.proofs.Common.{◌≡◌, ◌≤◌, ◌*◌, ◌^◌, map, sum, take, steps, edge_length, edge_number}
use Rattle.surf_certcheck.proofs.cycles.length_of.Given as goal

-- the steps before
abbrev pub invariant-loop-i : goal.invariant-loop-i
invariant-loop-i l = record {
  total : l.total ≡ sum (map (λ s. edge_length l.lengths (edge_number l.mesh s)) (take l.i (steps l.list)));
  bound : l.total ≤ l.i * 2 ^ 32;
}
