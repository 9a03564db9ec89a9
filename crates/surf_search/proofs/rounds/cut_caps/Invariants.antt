use Rattle.surf_search.proofs.Common.{◌≡◌, ◌<◌, ◌≤◌, ℕ, length, get_or, cap_at}
use Rattle.surf_search.proofs.rounds.cut_caps.Given as goal

abbrev pub invariant-loop-v : goal.invariant-loop-v
invariant-loop-v l = record {
  count : length l.caps.items ≡ length l.reached;
  cut : (k d : ℕ) → k < l.v-index → l.most ≤ cap_at l.caps.items (get_or l.vertices k d);
}
