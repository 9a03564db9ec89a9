use Rattle.surf_surfaces.proofs.Common.{◌≡◌, ℕ, ◌<◌, slice_index}
use Rattle.surf_tree.proofs.even.even_length.Given as goal

abbrev pub invariant-loop-e : goal.invariant-loop-e
invariant-loop-e l = (k : ℕ) → k < l.e → slice_index l.lengths k ≡ l.first
