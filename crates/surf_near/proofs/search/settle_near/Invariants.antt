use Rattle.surf_near.proofs.Common.{◌≡◌, length, eqb, count_below, at, AreUpToOrPast, graph_of, weight_of, never}
use Rattle.surf_near.proofs.Turns.{IsSearchNear}
use Rattle.surf_near.proofs.search.settle_near.Given as goal

abbrev pub invariant-loop-v : goal.invariant-loop-v
invariant-loop-v l = record {
  places : length l.fringe.entries ≡ l.links.mesh.vertices;
  search : IsSearchNear (graph_of l.links) (weight_of l.links) l.fn.base l.radius l.tables l.fringe.entries;
  step : AreUpToOrPast l.links.lengths l.radius l.fringe.step;
}

abbrev pub decreases-loop-v : goal.decreases-loop-v
decreases-loop-v l = count_below l.links.mesh.vertices (λ u. eqb (at l.tables.distance.items u) never)
