use Rattle.surf_near.proofs.Common.{◌≡◌, map, at, graph_of, weight_of, ends_of}
use Rattle.surf_near.proofs.Queues.{IsLooking}
use Rattle.surf_near.proofs.even.look_ahead.Given as goal

abbrev pub invariant-loop-link : goal.invariant-loop-link
invariant-loop-link l = record {
  looking : IsLooking (graph_of l.links) (weight_of l.links) l.size l.radius l.tables l.fn.place (at l.fn.tables.order.items l.fn.place) l.d
      (map ends_of l.link-items) l.link-index l.best.parent l.best.up l.best.least;
  first : at l.tables.order.items 0 ≡ at l.fn.tables.order.items 0;
}
