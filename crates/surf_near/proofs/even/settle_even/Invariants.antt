use Rattle.surf_near.proofs.Common.{◌-◌, ◌≡◌, at, graph_of, weight_of, IsQueue}
use Rattle.surf_near.proofs.even.settle_even.Given as goal

abbrev pub invariant-loop-place : goal.invariant-loop-place
invariant-loop-place l = record {
  queue : IsQueue (graph_of l.links) (weight_of l.links) l.size l.radius l.tables l.place;
  first : at l.tables.order.items 0 ≡ l.fn.base;
}

abbrev pub decreases-loop-place : goal.decreases-loop-place
decreases-loop-place l = l.links.mesh.vertices - l.place
