use Rattle.std.proofs.Common.{◌≡◌, ◌<◌, ℕ, true}
use Rattle.surf_soup.specs.Reach.{marked}
use Rattle.surf_soup.proofs.reaching.first_unmarked.Given as goal

abbrev pub invariant-loop-k : goal.invariant-loop-k
invariant-loop-k l = (j : ℕ) → j < l.k → marked l.seen j ≡ true
