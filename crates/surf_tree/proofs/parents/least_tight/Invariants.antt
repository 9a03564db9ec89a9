use Rattle.std.proofs.Common.{◌≡◌, ◌≢◌, ℕ, ◌<◌, ◌≤◌, ◌+◌, map}
use Rattle.surf_mesh.specs.Links.{link_at}
use Rattle.surf_base.specs.Tables.{nobody, at}
use Rattle.surf_tree.specs.Searches.{IsTight}
use Rattle.surf_tree.proofs.parents.least_tight.Given as goal

abbrev pub invariant-loop-e : goal.invariant-loop-e
invariant-loop-e g l = record {
  least : (i : ℕ) → i < l.e-index →
      at l.distance (link_at (map (g.N.Network.link l.network l.node) l.e-items) i).0
      + g.N.Network.weight l.network (link_at (map (g.N.Network.link l.network l.node) l.e-items) i).1 ≡ at l.distance l.node →
      l.best ≤ (link_at (map (g.N.Network.link l.network l.node) l.e-items) i).0;
  tight : l.best ≢ nobody → (l.best < (g.N.Network.graph l.network).nodes)
      × IsTight (g.N.Network.graph l.network) (g.N.Network.weight l.network) (at l.distance) l.node l.best (g.N.Network.link l.network l.node l.up).1;
}
