use Rattle.surf_cotree.proofs.Common.{ℕ, Bool, dual, cells_of, IsHungBy}
use Rattle.surf_cotree.proofs.peeling.hang.Given as goal

abbrev pub invariant-loop-k : goal.invariant-loop-k
invariant-loop-k l = (allowed : ℕ → Bool) (weight : ℕ → ℕ) → IsHungBy (dual (cells_of l.mesh)) allowed weight l.leaves l.fn.count l.initial.parent l.initial.up l.initial.depth → IsHungBy (dual (cells_of l.mesh)) allowed weight l.leaves l.k l.parent l.up l.depth
