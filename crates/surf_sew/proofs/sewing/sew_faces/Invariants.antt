use Rattle.surf_sew.proofs.Common.{◌≡◌, ◌≤◌, ◌<◌, ℕ, length, get_or, take, drop, sewn_faces, repeat_from}
use Rattle.surf_sew.proofs.sewing.sew_faces.Given as goal

abbrev pub invariant-loop-f : goal.invariant-loop-f
invariant-loop-f l = record {
  vertices : l.sewn.vertices ≡ l.vertices;
  faces : l.sewn.faces ≡ take l.f (sewn_faces l.origins l.soup.faces);
  room : length l.marks.items ≡ l.vertices;
  earlier : (k : ℕ) → k < length l.marks.items → get_or l.marks.items k 0 ≤ l.f;
  so_far : repeat_from l.f (drop l.f (sewn_faces l.origins l.soup.faces)) ≡ repeat_from 0 (sewn_faces l.origins l.soup.faces);
}
