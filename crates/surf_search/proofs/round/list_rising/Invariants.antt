use Rattle.surf_search.proofs.Common.{◌<◌, ◌≤◌, All, length, AreRising}
use Rattle.surf_search.proofs.round.list_rising.Given as goal

abbrev pub invariant-loop-v : goal.invariant-loop-v
invariant-loop-v l = record {
  inside : All (λ v. v < length l.caps) l.list.items;
  few : length l.list.items ≤ l.v;
  rising : AreRising l.caps l.reached l.v l.list.items;
}
