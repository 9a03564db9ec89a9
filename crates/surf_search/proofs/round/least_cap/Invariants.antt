use Rattle.surf_search.proofs.Common.{◌<◌, ◌≤◌, ℕ, cap_at}
use Rattle.surf_search.proofs.round.least_cap.Given as goal

abbrev pub invariant-loop-cap : goal.invariant-loop-cap
invariant-loop-cap l = (v : ℕ) → v < l.cap-index → l.least ≤ cap_at l.reached v
