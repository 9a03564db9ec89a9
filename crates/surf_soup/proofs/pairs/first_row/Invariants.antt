use Rattle.std.proofs.Common.{◌<◌, ◌≤◌, ℕ, length, get_or, []}
use Rattle.surf_soup.proofs.pairs.first_row.Given as goal

abbrev pub invariant-loop-e : goal.invariant-loop-e
invariant-loop-e l = (d : ℕ) → d < l.e →
    (l.least ≤ length (get_or l.rows d []) → length (get_or l.rows d []) ≤ l.most → ⊥)
