use Rattle.surf_search.proofs.Common.{◌≡◌, ◌<◌, ◌≤◌, ◌⊎◌, ℕ, length, cap_at}
use Rattle.surf_search.proofs.rounds.raise_to.Given as goal

abbrev pub invariant-loop-v : goal.invariant-loop-v
invariant-loop-v l = record {
  count : length l.reached ≡ length l.fn.reached;
  front : (u : ℕ) → u < l.v → (l.most ≤ cap_at l.reached u) × ((cap_at l.reached u ≡ cap_at l.fn.reached u) ⊎ (cap_at l.reached u ≡ l.most));
  back : (u : ℕ) → l.v ≤ u → cap_at l.reached u ≡ cap_at l.fn.reached u;
}
