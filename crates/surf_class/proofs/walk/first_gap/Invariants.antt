use Rattle.surf_surfaces.proofs.Common.{◌≡◌, ◌<◌, ◌+◌, ℕ, true, get_or, among, pair, edges}
use Rattle.surf_class.proofs.walk.first_gap.Given as goal

-- the steps before are along edges
abbrev pub invariant-loop-i : goal.invariant-loop-i
invariant-loop-i l = (k : ℕ) → k + 1 < l.i → among (pair (get_or l.list k 0) (get_or l.list (k + 1) 0)) (edges l.mesh) ≡ true
