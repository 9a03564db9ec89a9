use Rattle.surf_cotree.proofs.Common.{◌≡◌, ◌≤◌, ◌+◌, ℕ, length, eqb, vec_capacity, count_below, at}
use Rattle.surf_cover.proofs.Common.{far, IsSearch, AreListed}
use Rattle.surf_cover.proofs.search.settle_within.Given as goal

-- the state of the search, in which no settled node is past the radius
abbrev pub invariant-loop-node : goal.invariant-loop-node
invariant-loop-node g l = record {
  places : length l.heap ≡ (g.N.Network.graph l.network).nodes;
  nodes : length l.reached.distance.items ≡ (g.N.Network.graph l.network).nodes;
  room : (g.N.Network.graph l.network).nodes ≤ vec_capacity l.reached.settled;
  listed : AreListed l.reached.distance.items l.reached.settled.items;
  counted : length l.reached.settled.items
      + count_below (g.N.Network.graph l.network).nodes (λ u. eqb (at l.reached.distance.items u) far)
      ≡ (g.N.Network.graph l.network).nodes;
  last : ℕ;
  last_in : last ≤ l.radius;
  search : IsSearch (g.N.Network.graph l.network) (g.N.Network.weight l.network) l.base (at l.reached.distance.items) l.heap
      last (count_below (g.N.Network.graph l.network).nodes (λ u. eqb (at l.reached.distance.items u) far));
}

abbrev pub decreases-loop-node : goal.decreases-loop-node
decreases-loop-node g l =
    count_below (g.N.Network.graph l.network).nodes (λ u. eqb (at l.reached.distance.items u) far)
