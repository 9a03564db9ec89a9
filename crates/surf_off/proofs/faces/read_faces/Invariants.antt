use Rattle.surf_surfaces.proofs.Common.{◌≡◌, ◌≤◌, ◌<◌, ◌-◌, ℕ, true, length, get_or, sum_by}
use Rattle.surf_text.specs.Walks.{lines_ahead}
use Rattle.surf_off.specs.Off.{faces_at}
use Rattle.surf_off.proofs.FaceLines.{with_faces}
use Rattle.surf_off.proofs.faces.read_faces.Given as goal

abbrev pub invariant-loop-done : goal.invariant-loop-done
invariant-loop-done l = record {
  text : l.lines.text ≡ l.fn.lines.text;
  same : l.colours.text ≡ l.fn.lines.text;
  vertices : l.soup.vertices ≡ l.vertices;
  count : length l.soup.faces ≡ l.done;
  colours : length l.colours.parts ≡ l.done;
  few : sum_by length l.soup.faces ≤ 6000000;
  room : length l.marks.items ≡ l.vertices;
  earlier : (k : ℕ) → k < length l.marks.items → get_or l.marks.items k 0 ≤ l.done;
  so_far : with_faces l.soup.faces l.colours.parts (faces_at true l.vertices (l.faces - l.done) (sum_by length l.soup.faces) (lines_ahead l.lines)) ≡ faces_at true l.vertices l.faces 0 (lines_ahead l.fn.lines);
}
