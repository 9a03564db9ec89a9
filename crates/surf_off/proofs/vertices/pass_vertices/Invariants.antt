use Rattle.std.proofs.Common.{◌≡◌, ◌-◌, ℕ, List}
use Rattle.surf_text.specs.Walks.{lines_ahead}
use Rattle.surf_off.specs.Off.{vertices_at}
use Rattle.surf_off.proofs.VertexLines.{with_lines}
use Rattle.surf_off.proofs.vertices.pass_vertices.Given as goal

abbrev pub invariant-loop-done : goal.invariant-loop-done
invariant-loop-done l = record {
  text : l.lines.text ≡ l.fn.lines.text;
  so_far : (front : List (List ℕ)) × (with_lines front (vertices_at (l.vertices - l.done) l.faces (lines_ahead l.lines)) ≡ vertices_at l.vertices l.faces (lines_ahead l.fn.lines));
}
