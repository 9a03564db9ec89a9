use Rattle.surf_near.proofs.Common.{ℕ, ◌<◌, ◌≤◌, longest, AreSmallUpTo, AreGreatFrom}
use Rattle.surf_surfaces.proofs.Common.{slice_index}
use Rattle.surf_buckets.specs.declared.TheConstants.{BUCKETS}
use Rattle.surf_tree.specs.Queues.{AreUpTo}
use Rattle.surf_near.proofs.sizes.sizes_of.Given as goal

abbrev pub invariant-loop-e : goal.invariant-loop-e
invariant-loop-e l = record {
  all : (k : ℕ) → k < l.e → slice_index l.lengths k ≤ l.sizes.greatest;
  all_least : (n : ℕ) → AreUpTo l.lengths n → l.sizes.greatest ≤ n;
  small : (k : ℕ) → k < l.e → slice_index l.lengths k < BUCKETS → slice_index l.lengths k ≤ l.sizes.greatest_small;
  small_least : (n : ℕ) → AreSmallUpTo l.lengths n → l.sizes.greatest_small ≤ n;
  great : (k : ℕ) → k < l.e → BUCKETS ≤ slice_index l.lengths k → l.sizes.least_great ≤ slice_index l.lengths k;
  great_most : (n : ℕ) → n ≤ longest → AreGreatFrom l.lengths n → n ≤ l.sizes.least_great;
  fits : l.sizes.least_great ≤ longest;
}
