use Rattle.std.proofs.Common.{◌+◌, ◌-◌, ℕ, ◌<◌, ◌≤◌}
use Rattle.surf_buckets.specs.Circles.{of_node, IsEmptyBucket}
use Rattle.surf_buckets.proofs.circles.first_full.Given as goal

abbrev pub invariant-loop-key : goal.invariant-loop-key
invariant-loop-key g l = record {
  since : l.now ≤ l.key;
  before : (k : ℕ) → l.now ≤ k → k < l.key → IsEmptyBucket l.places (of_node g.N.Linked.next g.N.Linked.blank l.nodes) k;
}

abbrev pub decreases-loop-key : goal.decreases-loop-key
decreases-loop-key g l = l.last + 1 - l.key
