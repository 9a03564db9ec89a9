use Rattle.std.proofs.Common.{◌≡◌, ◌<◌, ◌≤◌, ℕ, true, false, slice_index_or}
use Rattle.surf_check.proofs.descent.are_set_behind_first.Given as goal

abbrev pub invariant-loop-v : goal.invariant-loop-v
invariant-loop-v l = record {
  behind : 1 ≤ l.v;
  set : (w : ℕ) → 0 < w → w < l.v → slice_index_or l.marked w false ≡ true;
}
