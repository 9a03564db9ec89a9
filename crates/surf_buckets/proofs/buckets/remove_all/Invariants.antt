use Rattle.std.proofs.Common.{◌≡◌, ℕ, ◌<◌}
use Rattle.surf_buckets.specs.Circles.{nothing}
use Rattle.surf_buckets.specs.Nodes.{key_at, AreNodes}
use Rattle.surf_buckets.proofs.buckets.remove_all.Given as goal

abbrev pub invariant-loop-place : goal.invariant-loop-place
invariant-loop-place l = record {
  circles : AreNodes l.places l.nodes;
  none : (p : ℕ) → p < l.place → key_at l.nodes p ≡ nothing;
}
