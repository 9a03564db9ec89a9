use Rattle.surf_choice.proofs.Common.{ℕ, ◌≡◌, ◌<◌, ◌≤◌, ◌-◌, true, length, get_or, earlier}
use Rattle.surf_choice.proofs.merging.pass.Given as goal

abbrev pub invariant-loop-place : goal.invariant-loop-place
invariant-loop-place l = record {
  from : l.from ≤ l.place;
  inside : l.place ≤ length l.keys;
  before : (k : ℕ) → l.from ≤ k → k < l.place → earlier (get_or l.keys k l.candidate) l.candidate ≡ true;
}

abbrev pub decreases-loop-place : goal.decreases-loop-place
decreases-loop-place l = length l.keys - l.place
