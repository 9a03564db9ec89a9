use Rattle.surf_slit.proofs.Common.{◌≡◌, ◌<◌, ℕ, length, take}
use Rattle.surf_cutter.proofs.Common.{is_point, is_marked}
use Rattle.surf_cutter.proofs.taking.mark_points.Given as goal

abbrev pub invariant-loop-point : goal.invariant-loop-point
invariant-loop-point l = record {
  size : length l.marks.items ≡ l.vertices;
  at : (v : ℕ) → v < length l.marks.items → is_marked l.marks.items v ≡ is_point (take l.point-index l.points) v;
}
