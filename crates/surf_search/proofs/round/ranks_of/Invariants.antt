use Rattle.surf_search.proofs.Common.{◌≡◌, length}
use Rattle.surf_search.proofs.round.ranks_of.Given as goal

abbrev pub invariant-loop-k : goal.invariant-loop-k
invariant-loop-k l = record {
  count : length l.ranks.items ≡ l.mesh.vertices;
}
