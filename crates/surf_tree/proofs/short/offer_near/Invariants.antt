use Rattle.std.proofs.Common.{◌≡◌, length, map}
use Rattle.surf_buckets.specs.Lent.{waiting, settled, IsFiling}
use Rattle.surf_mesh.specs.Links.{link_at}
use Rattle.surf_base.specs.Tables.{at}
use Rattle.surf_tree.proofs.SearchWords.{IsOfferedSome}
use Rattle.surf_tree.proofs.short.offer_near.Given as goal

abbrev pub invariant-loop-e : goal.invariant-loop-e
invariant-loop-e g l = record {
  filing : IsFiling l.buckets l.distance;
  room : length l.distance ≡ length l.fn.distance;
  places : l.buckets.places ≡ l.fn.buckets.places;
  now : l.buckets.now ≡ l.fn.buckets.now;
  settles : settled l.buckets l.distance ≡ settled l.fn.buckets l.fn.distance;
  offered : IsOfferedSome (g.N.Network.graph l.network) (g.N.Network.weight l.network) (at (settled l.fn.buckets l.fn.distance)) l.node l.d
      (waiting l.fn.buckets l.fn.distance) (waiting l.buckets l.distance)
      (λ k. (link_at (map (g.N.Network.link l.network l.node) l.e-items) k).0) (λ k. (link_at (map (g.N.Network.link l.network l.node) l.e-items) k).1) l.e-index;
}
