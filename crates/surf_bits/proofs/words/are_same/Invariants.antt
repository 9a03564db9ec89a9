use Rattle.std.proofs.Common.{ℕ, ◌≡◌, ◌<◌, get_or}
use Rattle.surf_bits.proofs.words.are_same.Given as goal

-- the words below i are the same
abbrev pub invariant-loop-i : goal.invariant-loop-i
invariant-loop-i l = (k : ℕ) → k < l.i → get_or l.first k 0 ≡ get_or l.second k 0
