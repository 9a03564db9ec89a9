use Rattle.surf_surfaces.proofs.Common.{◌≡◌, ℕ, length, eqb, count_below}
use Rattle.surf_buckets.specs.Lent.{waiting, settled, IsFiling}
use Rattle.surf_base.specs.Tables.{at}
use Rattle.surf_tree.specs.Searches.{far}
use Rattle.surf_tree.proofs.SearchWords.{IsSearch}
use Rattle.surf_tree.proofs.short.settle_short.Given as goal

abbrev pub invariant-loop-node : goal.invariant-loop-node
invariant-loop-node g l = record {
  places : l.buckets.places ≡ (g.N.Network.graph l.network).nodes;
  room : length l.distance ≡ (g.N.Network.graph l.network).nodes;
  filing : IsFiling l.buckets l.distance;
  last : ℕ;
  search : IsSearch (g.N.Network.graph l.network) (g.N.Network.weight l.network) l.base (at (settled l.buckets l.distance)) (waiting l.buckets l.distance) last
      (count_below (g.N.Network.graph l.network).nodes (λ u. eqb (at (settled l.buckets l.distance) u) far));
}

abbrev pub decreases-loop-node : goal.decreases-loop-node
decreases-loop-node g l = count_below (g.N.Network.graph l.network).nodes (λ u. eqb (at (settled l.buckets l.distance) u) far)
