use Rattle.surf_near.proofs.Common.{◌≡◌, ◌<◌, ℕ, [], length, sum_by, slice_index_or, sum_below, AreGivenAt, degree}
use Rattle.surf_near.proofs.links.Links.make.Given as goal

abbrev pub invariant-loop-v : goal.invariant-loop-v
invariant-loop-v l = record {
  count : length l.rows ≡ l.v;
  total : sum_by length l.rows ≡ sum_below l.v (degree l.mesh);
  at : (u : ℕ) → u < l.v → AreGivenAt l.mesh l.lengths u (slice_index_or l.rows u []);
}
