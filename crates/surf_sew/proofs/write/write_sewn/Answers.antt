use Rattle.surf_sew.proofs.Common.{◌^◌, ℕ, List, ◌++◌, length, refl, subst, arith, zip, err_from_is_err_and, Mesh, edge_count, Puts, puts_more, puts_stop, OffParts, short_faces, head_text, lines_text, faces_text, sewn_lines, RereadsSewn}
use Rattle.surf_sew.proofs.Rereads.{parts, sewn_again}
use Rattle.surf_sew.proofs.write.write_sewn.Goals as goal
use Rattle.surf_sew.proofs.write.write_sewn.Goals.{After-write_head}

-- the texts of the head, the vertex lines and the faces
abbrev texts : OffParts → List ℕ → Mesh → List ℕ × List ℕ × List ℕ
texts text origins mesh = (head_text text.header mesh.vertices (length mesh.faces) (edge_count mesh), lines_text (sewn_lines text.vertex_lines origins mesh.vertices), faces_text (zip mesh.faces text.colours))

reread : (c : After-write_head) → RereadsSewn c.args.text.now c.args.origins.now c.args.mesh.now
reread c = sewn_again c.args.text.now c.args.origins.now c.args.mesh.now c.header.ensures.clean c.requires.origins c.requires.copies c.vertices-vertices.ensures.surface.is_mesh (short_faces c.args.mesh.now.faces (2 ^ 64) (omega (arith, c.vertices-vertices.ensures.few))) c.requires.faces (omega (arith, c.vertices-vertices.ensures.count)) (omega (arith, c.faces-faces.ensures.count)) (omega (arith, c.edges.ensures.count))

headed : (c : After-write_head) → Puts c.args.page.now c.write_head.new.page (texts c.args.text.now c.args.origins.now c.args.mesh.now).0 c.write_head.result
headed c = subst (λ (t : List ℕ). Puts c.args.page.now c.write_head.new.page t c.write_head.result) (rw (c.header.ensures.header, c.vertices-vertices.ensures.count, c.faces-faces.ensures.count, c.edges.ensures.count) refl) c.write_head.ensures.puts

pub returns-in_err-write_head-clause-reread : goal.returns-in_err-write_head-clause-reread
returns-in_err-write_head-clause-reread c = reread (goal.at.returns-in_err-write_head-clause-reread c).After-write_head

pub returns-in_err-write_lines-clause-reread : goal.returns-in_err-write_lines-clause-reread
returns-in_err-write_lines-clause-reread c = reread (goal.at.returns-in_err-write_lines-clause-reread c).After-write_head

pub returns-clause-reread : goal.returns-clause-reread
returns-clause-reread c = reread (goal.at.returns-clause-reread c).After-write_head

pub returns-in_err-write_head-clause-puts : goal.returns-in_err-write_head-clause-puts
returns-in_err-write_head-clause-puts c =
    let t = texts c.args.text.now c.args.origins.now c.args.mesh.now in
    let r = c.from_residual.result in
    let e = err_from_is_err_and r c.from_residual.ensures.1 in
    rw (← parts c.args.text.now c.args.origins.now c.args.mesh.now) (puts_stop c.args.page.now c.write_head.new.page t.0 (t.1 ++ t.2) c.write_head.result _ r c.in_err-write_head.was (rw (e.1, e.2) refl) (headed (goal.at.returns-in_err-write_head-clause-puts c).After-write_head))

pub returns-in_err-write_lines-clause-puts : goal.returns-in_err-write_lines-clause-puts
returns-in_err-write_lines-clause-puts c =
    let t = texts c.args.text.now c.args.origins.now c.args.mesh.now in
    let p2 = c.write_lines.new.page in
    let r = c.from_residual-in_err-write_lines.result in
    let e = err_from_is_err_and r c.from_residual-in_err-write_lines.ensures.1 in
    let stops = puts_stop c.write_head.new.page p2 t.1 t.2 c.write_lines.result _ r c.in_err-write_lines.was (rw (e.1, e.2) refl) (rw (← c.vertices-vertices.ensures.count) c.write_lines.ensures.puts) in
    rw (← parts c.args.text.now c.args.origins.now c.args.mesh.now) (puts_more c.args.page.now c.write_head.new.page p2 t.0 (t.1 ++ t.2) c.write_head.result _ r c.in_ok-write_head.was (headed (goal.at.returns-in_err-write_lines-clause-puts c).After-write_head) stops)

pub returns-clause-puts : goal.returns-clause-puts
returns-clause-puts c =
    let t = texts c.args.text.now c.args.origins.now c.args.mesh.now in
    let r = c.write_faces.result in
    let more = puts_more c.write_head.new.page c.write_lines.new.page c.write_faces.new.page t.1 t.2 c.write_lines.result _ r c.in_ok-write_lines.was (rw (← c.vertices-vertices.ensures.count) c.write_lines.ensures.puts) c.write_faces.ensures.puts in
    rw (← parts c.args.text.now c.args.origins.now c.args.mesh.now) (puts_more c.args.page.now c.write_head.new.page c.write_faces.new.page t.0 (t.1 ++ t.2) c.write_head.result _ r c.in_ok-write_head.was (headed (goal.at.returns-clause-puts c).After-write_head) more)
