use Rattle.std.proofs.Common.{◌≡◌, map}
use Rattle.surf_base.specs.Tables.{at}
use Rattle.surf_tree.proofs.Queues.{IsPassing}
use Rattle.surf_tree.proofs.even.pass_on.Given as goal

abbrev pub invariant-loop-e : goal.invariant-loop-e
invariant-loop-e g l = record {
  passing : IsPassing (g.N.Network.graph l.network) (g.N.Network.weight l.network) l.size l.distance l.order l.count l.fn.place (at l.fn.order l.fn.place) (at l.fn.distance (at l.fn.order l.fn.place))
      (map (g.N.Network.link l.network l.v) l.e-items) l.e-index;
  first : at l.order 0 ≡ at l.fn.order 0;
}
