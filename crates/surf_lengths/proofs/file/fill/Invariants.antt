use Rattle.std.proofs.Common.{◌≡◌, ◌<◌, ◌≤◌, ℕ, Some, length, get_or}
use Rattle.surf_lengths.specs.Naming.{length_or}
use Rattle.surf_lengths.proofs.file.fill.Given as goal

abbrev pub invariant-loop-e : goal.invariant-loop-e
invariant-loop-e l = record {
  sized : length l.table ≡ length l.fn.table;
  done : (k : ℕ) → k < l.e → get_or l.table k 0 ≡ length_or (Some l.default) (get_or l.fn.table k 0);
  left : (k : ℕ) → l.e ≤ k → get_or l.table k 0 ≡ get_or l.fn.table k 0;
}
