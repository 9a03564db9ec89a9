use Rattle.surf_surfaces.proofs.Common.{ℕ, ◌<◌, ◌≤◌, slice_index}
use Rattle.surf_tree.specs.Queues.{AreUpTo}
use Rattle.surf_tree.proofs.even.greatest_length.Given as goal

abbrev pub invariant-loop-e : goal.invariant-loop-e
invariant-loop-e l = ((k : ℕ) → k < l.e → slice_index l.lengths k ≤ l.greatest)
    × ((n : ℕ) → AreUpTo l.lengths n → l.greatest ≤ n)
