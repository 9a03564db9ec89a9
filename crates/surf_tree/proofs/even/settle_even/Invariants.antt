use Rattle.std.proofs.Common.{◌-◌, ◌≡◌}
use Rattle.surf_base.specs.Tables.{at}
use Rattle.surf_tree.specs.Queues.{IsQueue}
use Rattle.surf_tree.proofs.even.settle_even.Given as goal

abbrev pub invariant-loop-place : goal.invariant-loop-place
invariant-loop-place g l = record {
  queue : IsQueue (g.N.Network.graph l.network) (g.N.Network.weight l.network) l.size l.distance l.order l.count l.place;
  first : at l.order 0 ≡ l.fn.base;
}

abbrev pub decreases-loop-place : goal.decreases-loop-place
decreases-loop-place g l = (g.N.Network.graph l.network).nodes - l.place
