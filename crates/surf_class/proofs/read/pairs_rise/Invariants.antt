use Rattle.surf_surfaces.proofs.Common.{◌≡◌, ◌<◌, ◌+◌, ℕ, true, get_or, pair_lt}
use Rattle.surf_class.proofs.read.pairs_rise.Given as goal

-- the pairs before rise
abbrev pub invariant-loop-i : goal.invariant-loop-i
invariant-loop-i l = (k : ℕ) → k + 1 < l.i → pair_lt (get_or l.pairs k (0, 0)) (get_or l.pairs (k + 1) (0, 0)) ≡ true
