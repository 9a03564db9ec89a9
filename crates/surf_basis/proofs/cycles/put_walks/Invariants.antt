use Rattle.std.proofs.Common.{vec_len}
use Rattle.surf_basis.proofs.Common.{◌≤◌, length, ArePutIn, Contains, Cycle}
use Rattle.surf_basis.proofs.cycles.put_walks.Given as goal

abbrev pub invariant-loop-cycle : goal.invariant-loop-cycle
invariant-loop-cycle l = record {
  put : ArePutIn l.fn.cycles.items l.kept l.walks;
  within : l.left ≤ length l.kept;
  still : (c : Cycle) → Contains l.cycles.items c → Contains l.fn.cycles.items c;
}

abbrev pub decreases-loop-cycle : goal.decreases-loop-cycle
decreases-loop-cycle l = vec_len l.cycles
