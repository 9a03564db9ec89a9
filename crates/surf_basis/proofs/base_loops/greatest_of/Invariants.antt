use Rattle.surf_basis.proofs.Common.{ℕ, ◌<◌, ◌≤◌, slice_index}
use Rattle.surf_basis.proofs.base_loops.greatest_of.Given as goal

abbrev pub invariant-loop-length : goal.invariant-loop-length
invariant-loop-length l = (k : ℕ) → k < l.length-index → slice_index l.lengths k ≤ l.greatest
