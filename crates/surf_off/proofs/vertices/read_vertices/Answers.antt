use Rattle.std.proofs.Common.{◌≡◌, ◌+◌, ℕ, List, [], ◌∷◌, ◌++◌, length, length-append, take, drop, ap, sym, ◌∙◌}
use Rattle.surf_text.specs.Walks.{lines_ahead}
use Rattle.surf_off.specs.Seen.{PartList}
use Rattle.surf_off.proofs.VertexLines.{vertex_more, vertices_done}
use Rattle.surf_off.proofs.vertices.read_vertices.Goals as goal

pub loop-done-preserved : goal.loop-done-preserved
loop-done-preserved c =
    let front = c.loop-done.kept.parts in
    let line = c.in_ok-line.line in
    let i = c.loop-done.invariant in
    let part : take (length line.bytes.now) (drop line.start c.loop-done.kept.text) ≡ line.bytes.now =
    ap (λ (t : List ℕ). take (length line.bytes.now) (drop line.start t)) (i.same ∙ sym i.text) ∙ c.in_ok-line.ensures.place.same in
    let items : c.push.new.self.parts ≡ front ++ line.bytes.now ∷ [] = ap (λ (p : PartList). p.parts) c.in_ok-push.ensures.ok ∙ ap (λ (t : List ℕ). front ++ t ∷ []) part in
    record {
      text = c.next_vertex.ensures.text ∙ i.text;
      same = ap (λ (p : PartList). p.text) c.in_ok-push.ensures.ok ∙ i.same;
      count = ap length items ∙ length-append front (line.bytes.now ∷ []) ∙ ap (λ (n : ℕ). n + 1) i.count;
      so_far = rw items (vertex_more c.args.vertices c.args.faces c.loop-done.done front (lines_ahead c.loop-done.lines) _ i.so_far line.bytes.now (lines_ahead c.next_vertex.new.lines) c.in_ok-line.ensures.line);
    }

pub returns-clause-lines : goal.returns-clause-lines
returns-clause-lines c = vertices_done c.args.vertices c.args.faces c.loop-done.done c.loop-done.kept.parts (lines_ahead c.loop-done.lines) _ c.loop-done.invariant.so_far c.loop-done-test.false
