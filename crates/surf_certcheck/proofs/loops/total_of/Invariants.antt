use Rattle.surf_treecheck.proofs.Common.{◌≡◌, ◌≤◌, ◌*◌, ◌^◌, map, sum, take, edge_number, loop_size}
use Rattle.surf_certcheck.proofs.loops.total_of.Given as goal

-- the loops of the pairs before
abbrev pub invariant-loop-i : goal.invariant-loop-i
invariant-loop-i l = record {
  total : l.total ≡ sum (map (λ p. loop_size l.case.mesh.now l.case.lengths.now l.case.cert.now.tree (edge_number l.case.mesh.now p)) (take l.i l.left));
  bound : l.total ≤ l.i * 2 ^ 66;
}
