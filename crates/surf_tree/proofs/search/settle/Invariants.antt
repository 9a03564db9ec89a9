use Rattle.surf_surfaces.proofs.Common.{◌≡◌, ℕ, length, eqb, count_below}
use Rattle.surf_base.specs.Tables.{at}
use Rattle.surf_tree.specs.Searches.{far}
use Rattle.surf_tree.proofs.SearchWords.{IsSearch}
use Rattle.surf_tree.proofs.search.settle.Given as goal

abbrev pub invariant-loop-node : goal.invariant-loop-node
invariant-loop-node g l = record {
  places : length l.heap ≡ (g.N.Network.graph l.network).nodes;
  last : ℕ;
  search : IsSearch (g.N.Network.graph l.network) (g.N.Network.weight l.network) l.base (at l.distance) l.heap last (count_below (g.N.Network.graph l.network).nodes (λ u. eqb (at l.distance u) far));
}

abbrev pub decreases-loop-node : goal.decreases-loop-node
decreases-loop-node g l = count_below (g.N.Network.graph l.network).nodes (λ u. eqb (at l.distance u) far)
