use Rattle.std.proofs.Common.{◌≡◌, ◌<◌, ◌≤◌, ◌+◌, ℕ, true, List, [], ◌∷◌, ◌++◌, length, length-append, get_or, take, drop, Ok, ap, sym, subst, ◌∙◌, arith}
use Rattle.surf_surfaces.proofs.Common.{Option, IfSome, err_from_is_err_and, Mesh, sum_by_push}
use Rattle.surf_text.specs.Walks.{lines_ahead}
use Rattle.surf_off.specs.Off.{Face, face_of}
use Rattle.surf_off.specs.Gives.{GivesFace}
use Rattle.surf_off.specs.Seen.{PartList, part_of}
use Rattle.surf_off.specs.declared.parts.Span.{Span}
use Rattle.surf_off.proofs.Marks.{written_back}
use Rattle.surf_off.proofs.FaceLines.{face_early, face_more, face_bad, faces_done}
use Rattle.surf_off.proofs.faces.read_faces.Goals as goal

pub returns-in_default-clause-faces : goal.returns-in_default-clause-faces
returns-in_default-clause-faces c =
    let l = c.loop-done in
    let none = subst (λ (o : Option Span). GivesFace c.args.vertices c.side_count-sides.result (lines_ahead l.lines) (lines_ahead c.next_face.new.lines) l.lines.text c.next_face.new.corners.items (Ok o)) c.in_default.is c.in_ok-found.ensures.face in
    λ other. face_early c.args.vertices c.args.faces l.done l.soup.faces l.colours.parts (lines_ahead l.lines) _ l.invariant.so_far c.loop-done-test.true none

pub returns-in_err-found-clause-faces : goal.returns-in_err-found-clause-faces
returns-in_err-found-clause-faces c =
    let l = c.loop-done in
    let p = err_from_is_err_and c.from_residual-in_err-found.result c.from_residual-in_err-found.ensures.1 in
    rw (p.1, p.2) (λ other.
    let given = c.in_err-found.ensures.face other in
    face_bad c.args.vertices c.args.faces l.done l.soup.faces l.colours.parts (lines_ahead l.lines) _ l.invariant.so_far given.0 given.1 c.loop-done-test.true given.2 c.in_err-found.field-0.0 (ap (λ (sides : ℕ). face_of true c.args.vertices sides given.0) (sym c.side_count-sides.ensures.count) ∙ given.3))

pub loop-done-preserved : goal.loop-done-preserved
loop-done-preserved c =
    let l = c.loop-done in
    let i = l.invariant in
    let front = l.soup.faces in
    let span = c.in-Some.colour in
    let us = c.next_face.new.corners.items in
    let face : Face = record { corners = us; colour = part_of l.lines.text span } in
    let given = subst (λ (o : Option Span). GivesFace c.args.vertices c.side_count-sides.result (lines_ahead l.lines) (lines_ahead c.next_face.new.lines) l.lines.text us (Ok o)) c.in-Some.is c.in_ok-found.ensures.face in
    let faces : c.push_face.new.self.faces ≡ front ++ us ∷ [] = ap (λ (m : Mesh). m.faces) c.in_ok-push_face.ensures.ok ∙ ap (λ (f : List ℕ). front ++ f ∷ []) c.deref.ensures.value in
    let colours : c.push.new.self.parts ≡ l.colours.parts ++ face.colour ∷ [] =
    ap (λ (p : PartList). p.parts) c.in_ok-push.ensures.ok ∙ ap (λ (text : List ℕ). l.colours.parts ++ part_of text span ∷ []) (i.same ∙ sym i.text) in
    let table : take l.marks.len (c.next_face.new.marks ++ drop (length c.next_face.new.marks) l.marks.items) ≡ c.next_face.new.marks =
    written_back l.marks.len c.next_face.new.marks l.marks.items (c.next_face.auto.marks ∙ ap length c.deref_mut.ensures.value) (sym l.marks.ok.0) in
    let room : length c.next_face.new.marks ≡ c.args.vertices = c.next_face.auto.marks ∙ ap length c.deref_mut.ensures.value ∙ i.room in
    let few = subst (λ (o : Option Span). IfSome o (λ s. c.side_count-sides.result + length us ≤ 6000000)) c.in-Some.is c.in_ok-found.ensures.few in
    record {
      text = c.next_face.ensures.text ∙ i.text;
      same = ap (λ (p : PartList). p.text) c.in_ok-push.ensures.ok ∙ i.same;
      vertices = ap (λ (m : Mesh). m.vertices) c.in_ok-push_face.ensures.ok ∙ i.vertices;
      count = rw faces (omega (arith, length-append front (us ∷ []), i.count));
      colours = rw colours (omega (arith, length-append l.colours.parts (face.colour ∷ []), i.colours));
      few = rw faces (omega (arith, sum_by_push length front us, few, c.side_count-sides.ensures.count));
      room = ap length table ∙ room;
      earlier = subst (λ (marks : List ℕ). (k : ℕ) → k < length marks → get_or marks k 0 ≤ l.done + 1) (sym table) c.next_face.ensures.marks;
      so_far = rw (faces, colours) (face_more c.args.vertices c.args.faces l.done front l.colours.parts (lines_ahead l.lines) _ i.so_far given.0 (lines_ahead c.next_face.new.lines) c.loop-done-test.true given.1 face (ap (λ (sides : ℕ). face_of true c.args.vertices sides given.0) (sym c.side_count-sides.ensures.count) ∙ given.2));
    }

pub returns-clause-faces : goal.returns-clause-faces
returns-clause-faces c =
    let l = c.loop-done in
    faces_done c.args.vertices c.args.faces l.done l.soup.faces l.colours.parts (lines_ahead l.lines) _ l.invariant.so_far c.loop-done-test.false
