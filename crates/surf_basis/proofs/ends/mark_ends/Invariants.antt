use Rattle.surf_basis.proofs.Common.{◌≡◌, ◌≢◌, ◌<◌, ℕ, true, false, length, slice_index, ◌⊎◌, slice_index_or}
use Rattle.surf_basis.specs.Ends.{HasMarkedEnd, IsBusierEnd}
use Rattle.surf_basis.proofs.ends.mark_ends.Given as goal

abbrev pub invariant-loop-e : goal.invariant-loop-e
invariant-loop-e l = record {
  count : length l.marked ≡ l.mesh.vertices;
  ends : (e : ℕ) → e < l.e → slice_index l.signatures.signatures e ≢ 0 → HasMarkedEnd l.mesh l.marked e;
  only : (v : ℕ) → slice_index_or l.marked v false ≡ true →
      (slice_index_or l.fn.marked v false ≡ true) ⊎ IsBusierEnd l.mesh l.signatures (slice_index l.degrees) v;
}
