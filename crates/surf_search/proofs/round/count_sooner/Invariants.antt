use Rattle.surf_search.proofs.Common.{◌≡◌, ◌<◌, ◌≤◌, ◌-◌, ℕ, false, length, slice_index_or, Signed, place_of, is_sought}
use Rattle.surf_search.proofs.round.count_sooner.Given as goal

abbrev pub invariant-loop-k : goal.invariant-loop-k
invariant-loop-k l = (j : ℕ) (s : Signed) → length l.found - l.k ≤ j → j < length l.found →
    is_sought l.limit (place_of (slice_index_or l.found j s).candidate) ≡ false
