use Rattle.surf_surfaces.proofs.Common.{◌^◌, ◌≡◌, ◌-◌, ℕ, List, Result, Ok, ◌++◌, length, refl, sym, ◌∙◌, ap, append_assoc, arith, length-map, zip, range_with_len, err_from_is_err_and}
use Rattle.surf_text.specs.Pages.{PageState, Puts}
use Rattle.surf_text.specs.declared.page.PageFault.{PageFault}
use Rattle.surf_text.proofs.Writing.{puts_more, puts_stop}
use Rattle.surf_off.specs.Written.{head_text, lines_text, lines_at, faces_text, copies_text, rows_at, opened_text, RereadsOpened}
use Rattle.surf_off.proofs.FaceRows.{rows_length, short_rows}
use Rattle.surf_off.proofs.RereadMesh.{opened_again}
use Rattle.surf_off.proofs.write.write_off.Goals as goal
use Rattle.surf_off.proofs.write.write_off.Goals.{After-write_head}

-- the texts of the head, the vertex lines, the faces and the copies
abbrev texts : After-write_head → List ℕ × List ℕ × List ℕ × List ℕ
texts c =
    let text = c.args.text.now in
    let origins = c.args.origins.now in
    let starts = c.args.starts.now in
    (head_text text.header (length origins) (length starts - 1) c.args.edges, lines_text (lines_at text.vertex_lines origins), faces_text (zip (rows_at starts c.args.corners.now) text.colours), copies_text origins (range_with_len 0 (length origins)))

whole : (c : After-write_head) → (texts c).0 ++ ((texts c).1 ++ ((texts c).2 ++ (texts c).3)) ≡ opened_text c.args.text.now c.args.origins.now (rows_at c.args.starts.now c.args.corners.now) c.args.edges
whole c =
    let starts = c.args.starts.now in
    let rows = rows_at starts c.args.corners.now in
    let at = lines_at c.args.text.now.vertex_lines c.args.origins.now in
    let head = head_text c.args.text.now.header in
    let (_, lines, faces, copies) = texts c in
    let count : length starts - 1 ≡ length rows = omega (arith, rows_length starts c.args.corners.now (length c.args.corners.now) c.requires.starts) in
    let some : length c.args.origins.now ≡ length at = sym (length-map c.args.origins.now _) in
    ap (λ (v : ℕ). head v (length starts - 1) c.args.edges ++ (lines ++ (faces ++ copies))) some ∙ ap (λ (f : ℕ). head (length at) f c.args.edges ++ (lines ++ (faces ++ copies))) count
    ∙ ap (λ (t : List ℕ). head (length at) (length rows) c.args.edges ++ t) (sym (append_assoc lines faces copies)) ∙ sym (append_assoc (head (length at) (length rows) c.args.edges) (lines ++ faces) copies)

reread : (c : After-write_head) → RereadsOpened c.args.text.now c.args.origins.now (rows_at c.args.starts.now c.args.corners.now) c.args.edges
reread c =
    let starts = c.args.starts.now in
    let corners = c.args.corners.now in
    let count = rows_length starts corners (length corners) c.requires.starts in
    opened_again c.args.text.now c.args.origins.now (rows_at starts corners) c.args.edges c.header.ensures.clean c.requires.origins c.requires.faces (short_rows starts corners (2 ^ 64) (omega arith)) (omega (arith, count, c.requires.count)) (omega arith) c.header.ensures.countable (omega (arith, count)) (omega arith)

headed : (c : After-write_head) → Puts c.args.page.now c.write_head.new.page (texts c).0 c.write_head.result
headed c = rw (← c.header.ensures.header) c.write_head.ensures.puts

-- the rest behind a whole head
behind : {A : Type 0} (c : After-write_head) (x : Unit {0}) → c.write_head.result ≡ Ok x → (new : PageState) (r : Result A PageFault) → Puts c.write_head.new.page new ((texts c).1 ++ ((texts c).2 ++ (texts c).3)) r → Puts c.args.page.now new (opened_text c.args.text.now c.args.origins.now (rows_at c.args.starts.now c.args.corners.now) c.args.edges) r
behind c x ok new r puts = rw (← whole c) (puts_more c.args.page.now c.write_head.new.page new (texts c).0 ((texts c).1 ++ ((texts c).2 ++ (texts c).3)) c.write_head.result x r ok (headed c) puts)

pub returns-in_err-write_head : goal.returns-in_err-write_head
returns-in_err-write_head c =
    let h = (goal.at.returns-in_err-write_head c).After-write_head in
    let t = texts h in
    let r = c.from_residual.result in
    let e = err_from_is_err_and r c.from_residual.ensures.1 in
    record { reread = reread h; puts = rw (← whole h) (puts_stop c.args.page.now c.write_head.new.page t.0 (t.1 ++ (t.2 ++ t.3)) c.write_head.result _ r c.in_err-write_head.was (rw (e.1, e.2) refl) (headed h)) }

pub returns-in_err-write_lines : goal.returns-in_err-write_lines
returns-in_err-write_lines c =
    let h = (goal.at.returns-in_err-write_lines c).After-write_head in
    let t = texts h in
    let p2 = c.write_lines.new.page in
    let r = c.from_residual-in_err-write_lines.result in
    let e = err_from_is_err_and r c.from_residual-in_err-write_lines.ensures.1 in
    record { reread = reread h; puts = behind h _ c.in_ok-write_head.was p2 r (puts_stop c.write_head.new.page p2 t.1 (t.2 ++ t.3) c.write_lines.result _ r c.in_err-write_lines.was (rw (e.1, e.2) refl) c.write_lines.ensures.puts) }

pub returns-in_err-write_faces : goal.returns-in_err-write_faces
returns-in_err-write_faces c =
    let h = (goal.at.returns-in_err-write_faces c).After-write_head in
    let t = texts h in
    let p2 = c.write_lines.new.page in
    let p3 = c.write_faces.new.page in
    let r = c.from_residual-in_err-write_faces.result in
    let e = err_from_is_err_and r c.from_residual-in_err-write_faces.ensures.1 in
    let stops = puts_stop p2 p3 t.2 t.3 c.write_faces.result _ r c.in_err-write_faces.was (rw (e.1, e.2) refl) c.write_faces.ensures.puts in
    record { reread = reread h; puts = behind h _ c.in_ok-write_head.was p3 r (puts_more c.write_head.new.page p2 p3 t.1 (t.2 ++ t.3) c.write_lines.result _ r c.in_ok-write_lines.was c.write_lines.ensures.puts stops) }

pub returns : goal.returns
returns c =
    let h = (goal.at.returns c).After-write_head in
    let t = texts h in
    let p2 = c.write_lines.new.page in
    let p3 = c.write_faces.new.page in
    let p4 = c.write_copies.new.page in
    let r = c.write_copies.result in
    let more = puts_more p2 p3 p4 t.2 t.3 c.write_faces.result _ r c.in_ok-write_faces.was c.write_faces.ensures.puts c.write_copies.ensures.puts in
    record { reread = reread h; puts = behind h _ c.in_ok-write_head.was p4 r (puts_more c.write_head.new.page p2 p4 t.1 (t.2 ++ t.3) c.write_lines.result _ r c.in_ok-write_lines.was c.write_lines.ensures.puts more) }
