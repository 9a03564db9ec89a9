use Rattle.surf_choice.proofs.Common.{ℕ, ◌≡◌, ◌≤◌, get_or}
use Rattle.surf_choice.proofs.echelon.greatest.Given as goal

-- the words from i on are zero
abbrev pub invariant-loop-i : goal.invariant-loop-i
invariant-loop-i l = (k : ℕ) → l.i ≤ k → get_or l.words k 0 ≡ 0
