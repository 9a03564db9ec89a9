use Rattle.surf_finder.proofs.Common.{◌≡◌, ◌<◌, ◌≤◌, ℕ, slice_index_or, Signed}
use Rattle.surf_finder.proofs.walks.greatest_at.Given as goal

abbrev pub invariant-loop-signed : goal.invariant-loop-signed
invariant-loop-signed l = (k : ℕ) (s : Signed) → k < l.signed-index → (slice_index_or l.kept k s).candidate.base ≡ l.base →
    (slice_index_or l.kept k s).candidate.length ≤ l.greatest
