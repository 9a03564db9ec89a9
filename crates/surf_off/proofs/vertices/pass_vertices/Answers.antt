use Rattle.std.proofs.Common.{[], ◌∷◌, ◌++◌, ◌∙◌}
use Rattle.surf_text.specs.Walks.{lines_ahead}
use Rattle.surf_off.proofs.VertexLines.{vertex_more, vertices_done}
use Rattle.surf_off.proofs.vertices.pass_vertices.Goals as goal

pub loop-done-preserved : goal.loop-done-preserved
loop-done-preserved c =
    let before = c.loop-done.invariant.so_far in
    let line = c.in_ok-next_vertex.field-0.bytes.now in
    record {
      text = c.next_vertex.ensures.text ∙ c.loop-done.invariant.text;
      so_far = (before.0 ++ line ∷ [], vertex_more c.args.vertices c.args.faces c.loop-done.done before.0 (lines_ahead c.loop-done.lines) _ before.1 line (lines_ahead c.next_vertex.new.lines) c.in_ok-next_vertex.ensures.line);
    }

pub returns-clause-lines : goal.returns-clause-lines
returns-clause-lines c =
    let before = c.loop-done.invariant.so_far in
    (before.0, vertices_done c.args.vertices c.args.faces c.loop-done.done before.0 (lines_ahead c.loop-done.lines) _ before.1 c.loop-done-test.false)
