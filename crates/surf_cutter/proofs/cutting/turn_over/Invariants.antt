use Rattle.std.proofs.Common.{◌≡◌, ◌<◌, ◌≤◌, ℕ, get_or, not, false}
use Rattle.surf_cutter.proofs.cutting.turn_over.Given as goal

abbrev pub invariant-loop-flag : goal.invariant-loop-flag
invariant-loop-flag l = record {
  turned : (k : ℕ) → k < l.flag-index → get_or l.flags k false ≡ not (get_or l.initial.flags k false);
  kept : (k : ℕ) → l.flag-index ≤ k → get_or l.flags k false ≡ get_or l.initial.flags k false;
}
