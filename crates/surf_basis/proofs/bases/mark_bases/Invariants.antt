use Rattle.surf_basis.proofs.Common.{◌≡◌, ◌<◌, ℕ, true, false, length, slice_index_or, Signed}
use Rattle.surf_basis.proofs.bases.mark_bases.Given as goal

abbrev pub invariant-loop-signed : goal.invariant-loop-signed
invariant-loop-signed l = record {
  count : length l.marked ≡ length l.fn.marked;
  bases : (k : ℕ) (s : Signed) → k < l.signed-index → slice_index_or l.marked (slice_index_or l.kept k s).candidate.base false ≡ true;
}
