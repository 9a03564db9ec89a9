use Rattle.surf_near.proofs.Common.{◌≡◌, ◌≢◌, ◌<◌, ◌≤◌, ℕ, length, at, never}
use Rattle.surf_near.proofs.tables.forget.Given as goal

abbrev pub invariant-loop-v : goal.invariant-loop-v
invariant-loop-v l = record {
  same_length : length l.distance ≡ length l.initial.distance;
  listed : (v : ℕ) → v < length l.distance → at l.distance v ≢ never →
      (i : ℕ) × (l.v-index ≤ i) × (i < length l.order) × (at l.order i ≡ v);
}
