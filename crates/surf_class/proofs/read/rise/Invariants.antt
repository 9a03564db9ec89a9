use Rattle.std.proofs.Common.{◌≡◌, ◌<◌, ◌+◌, ℕ, true, nat_lt, get_or}
use Rattle.surf_class.proofs.read.rise.Given as goal

-- the numbers before rise
abbrev pub invariant-loop-i : goal.invariant-loop-i
invariant-loop-i l = (k : ℕ) → k + 1 < l.i → nat_lt (get_or l.numbers k 0) (get_or l.numbers (k + 1) 0) ≡ true
