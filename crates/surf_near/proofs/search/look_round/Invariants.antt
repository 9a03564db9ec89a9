use Rattle.surf_near.proofs.Common.{◌≡◌, length, map, at, graph_of, weight_of, ends_of}
use Rattle.surf_near.proofs.Choices.{IsChoiceSome}
use Rattle.surf_near.proofs.Offers.{OffersSome}
use Rattle.surf_near.proofs.search.look_round.Given as goal

abbrev pub invariant-loop-link : goal.invariant-loop-link
invariant-loop-link l = record {
  places : length l.fringe.entries ≡ l.links.mesh.vertices;
  now : l.fringe.now ≡ at l.distance l.fn.v;
  step : l.fringe.step ≡ l.fn.fringe.step;
  choice : IsChoiceSome (graph_of l.links) (weight_of l.links) (at l.distance) (at l.least) l.fn.v (map ends_of l.link-items) l.link-index
      l.best.parent l.best.up l.best.least;
  offers : OffersSome (graph_of l.links) (weight_of l.links) (at l.distance) l.fn.v l.d l.radius (map ends_of l.link-items) l.fn.fringe.entries l.fringe.entries l.link-index;
}
