use Rattle.surf_sew.proofs.Common.{◌≡◌, ◌<◌, ◌+◌, ℕ, length, get_or, drop, first_copy}
use Rattle.surf_sew.proofs.first.list_first.Given as goal

-- the least copies among those from one on
abbrev pub invariant-loop-c : goal.invariant-loop-c
invariant-loop-c l = (k : ℕ) → k < length l.table → get_or l.table k 0 ≡ l.c + first_copy (drop l.c l.origins) (l.from + k)
