use Rattle.surf_basis.proofs.Common.{ℕ, ◌≤◌, ◌<◌, IsTrue, Signed, slice_index_or}
use Rattle.surf_choice.specs.Candidates.{earlier}
use Rattle.surf_basis.proofs.cycles.without_later.Given as goal

abbrev pub invariant-loop-left : goal.invariant-loop-left
invariant-loop-left l = record {
  within : l.left ≤ l.count;
  later : (k : ℕ) (s : Signed) → l.left ≤ k → k < l.count → IsTrue (earlier l.candidate (slice_index_or l.kept k s).candidate);
}

abbrev pub decreases-loop-left : goal.decreases-loop-left
decreases-loop-left l = l.left
