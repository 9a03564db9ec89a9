use Rattle.std.proofs.Common.{◌≡◌, ℕ, ◌<◌, get_or, false}
use Rattle.surf_cutter.proofs.trimming.first_cut.Given as goal

abbrev pub invariant-loop-k : goal.invariant-loop-k
invariant-loop-k l = (j : ℕ) → j < l.k → get_or l.cut (get_or l.edges j 0) false ≡ false
