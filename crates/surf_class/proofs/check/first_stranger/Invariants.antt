use Rattle.surf_surfaces.proofs.Common.{◌≡◌, ◌<◌, ℕ, true, get_or, among, edges}
use Rattle.surf_class.proofs.check.first_stranger.Given as goal

-- the pairs before are edges
abbrev pub invariant-loop-u : goal.invariant-loop-u
invariant-loop-u l = (k : ℕ) → k < l.u-index → among (get_or l.u-items k (0, 0)) (edges l.mesh) ≡ true
