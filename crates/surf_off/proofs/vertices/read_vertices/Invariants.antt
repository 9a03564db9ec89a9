use Rattle.std.proofs.Common.{◌≡◌, ◌-◌, length}
use Rattle.surf_text.specs.Walks.{lines_ahead}
use Rattle.surf_off.specs.Off.{vertices_at}
use Rattle.surf_off.proofs.VertexLines.{with_lines}
use Rattle.surf_off.proofs.vertices.read_vertices.Given as goal

abbrev pub invariant-loop-done : goal.invariant-loop-done
invariant-loop-done l = record {
  text : l.lines.text ≡ l.fn.lines.text;
  same : l.kept.text ≡ l.fn.lines.text;
  count : length l.kept.parts ≡ l.done;
  so_far : with_lines l.kept.parts (vertices_at (l.vertices - l.done) l.faces (lines_ahead l.lines)) ≡ vertices_at l.vertices l.faces (lines_ahead l.fn.lines);
}
