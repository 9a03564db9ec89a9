use Rattle.surf_cotree.proofs.Common.{◌≡◌, ◌≢◌, ◌<◌, ◌≤◌, ℕ, length, at}
use Rattle.surf_cover.proofs.Common.{far}
use Rattle.surf_cover.proofs.search.take_away.Given as goal

-- each node that still has a distance is listed further on
abbrev pub invariant-loop-node : goal.invariant-loop-node
invariant-loop-node l = record {
  same_length : length l.distance ≡ length l.initial.distance;
  listed : (n : ℕ) → n < length l.distance → at l.distance n ≢ far →
      (i : ℕ) × (l.node-index ≤ i) × (i < length l.settled) × (at l.settled i ≡ n);
}
