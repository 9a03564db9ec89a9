use Rattle.std.proofs.Common.{◌≡◌, ◌<◌, ℕ, true, get_or}
use Rattle.surf_soup.specs.Reach.{marked}
use Rattle.surf_soup.proofs.rings.first_left.Given as goal

abbrev pub invariant-loop-k : goal.invariant-loop-k
invariant-loop-k l = (j : ℕ) → j < l.k → marked l.seen (get_or l.row j 0) ≡ true
