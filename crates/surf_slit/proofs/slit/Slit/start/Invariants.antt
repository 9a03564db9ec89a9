use Rattle.surf_slit.proofs.Common.{◌≡◌, ℕ, ◌<◌, length, get_or, side_count, corner_at}
use Rattle.surf_slit.proofs.slit.Slit.start.Given as goal

abbrev pub invariant-loop-v : goal.invariant-loop-v
invariant-loop-v l = record {
  size : length l.labels.items ≡ side_count l.mesh;
  by_vertex : (s : ℕ) → s < side_count l.mesh → corner_at l.mesh s < l.v → get_or l.labels.items s 0 ≡ corner_at l.mesh s;
}
