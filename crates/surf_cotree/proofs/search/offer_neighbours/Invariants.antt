use Rattle.surf_cotree.proofs.Common.{◌≤◌, ◌-◌, dual, cells_of, link_at, outside}
use Rattle.surf_cotree.proofs.Pairs.{IsOfferedSome}
use Rattle.surf_cotree.proofs.Passing.{links}
use Rattle.surf_cotree.proofs.search.offer_neighbours.Given as goal

abbrev pub invariant-loop-s : goal.invariant-loop-s
invariant-loop-s gen l = record {
  from : l.start ≤ l.s;
  some : IsOfferedSome (dual (cells_of l.network.mesh.now)) (outside l.network.marks.now) (gen.W.Weights.weight l.weight) (gen.R.Reached.reaches l.there) l.fn.face l.initial.heap l.heap
      (λ k. (link_at (links l.network.mesh.now l.start l.end) k).0) (λ k. (link_at (links l.network.mesh.now l.start l.end) k).1) (l.s - l.start);
}
