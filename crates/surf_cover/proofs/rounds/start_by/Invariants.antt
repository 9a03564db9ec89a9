use Rattle.surf_cotree.proofs.Common.{◌<◌, ◌≤◌, ◌/◌, ◌%◌, ℕ, at}
use Rattle.surf_cover.proofs.Common.{IsDivided, IsOnRound}
use Rattle.surf_cover.proofs.rounds.start_by.Given as goal

-- the vertex is on such a round, and none of those before in the list is a lesser one that is
abbrev pub invariant-loop-node : goal.invariant-loop-node
invariant-loop-node l = record {
  inside : l.vertex ≤ l.fn.base;
  on_round : IsOnRound l.desk l.set l.length l.vertex;
  least : (i : ℕ) → i < l.node-index →
      IsDivided l.desk l.set l.length (at l.node-items i / l.desk.sets) (at l.node-items i % l.desk.sets) →
      l.vertex ≤ at l.node-items i / l.desk.sets;
}
