use Rattle.std.proofs.Common.{◌≡◌, ◌<◌, ℕ, false, nat_le, get_or}
use Rattle.surf_class.proofs.walk.first_stranger.Given as goal

-- the numbers before are vertices
abbrev pub invariant-loop-i : goal.invariant-loop-i
invariant-loop-i l = (k : ℕ) → k < l.i → nat_le l.mesh.vertices (get_or l.numbers k 0) ≡ false
