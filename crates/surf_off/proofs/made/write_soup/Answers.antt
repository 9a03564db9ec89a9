use Rattle.surf_surfaces.proofs.Common.{◌≡◌, ◌^◌, arith, ℕ, List, ◌++◌, length, refl, sym, ◌∙◌, zip, range_with_len, length-map, length-range_with_len, err_from_is_err_and}
use Rattle.surf_text.specs.Pages.{Puts}
use Rattle.surf_text.proofs.Writing.{puts_more, puts_stop}
use Rattle.surf_off.specs.declared.header.Header.TheVariants.{Off}
use Rattle.surf_off.specs.Written.{head_text, lines_text, faces_text, points, no_colours, RereadsSoup}
use Rattle.surf_off.proofs.RereadMesh.{soup_again, short_faces}
use Rattle.surf_off.proofs.made.write_soup.Goals as goal
use Rattle.surf_off.proofs.made.write_soup.Goals.{After-write_head}

-- the texts of the head, the points and the faces
abbrev texts : After-write_head → List ℕ × List ℕ × List ℕ
texts c =
    let mesh = c.args.soup.now in
    let all = points (range_with_len 0 mesh.vertices) in
    (head_text Off (length all) (length mesh.faces) c.args.edges, lines_text all, faces_text (zip mesh.faces (no_colours mesh.faces)))

-- the head is on the page, and the text is read again
headed : (c : After-write_head) → Puts c.args.page.now c.write_head.new.page (texts c).0 c.write_head.result × RereadsSoup c.args.soup.now c.args.edges
headed c =
    let numbers = range_with_len 0 c.args.soup.now.vertices in
    let v : c.vertices.result ≡ length (points numbers) = c.vertices.ensures.count ∙ sym (length-map numbers _ ∙ length-range_with_len 0 c.args.soup.now.vertices) in
    (rw (← v, ← c.faces.ensures.count) c.write_head.ensures.puts, soup_again c.args.soup.now c.args.edges c.law_of_soup.ensures.mesh (short_faces c.args.soup.now.faces (2 ^ 64) (omega (arith, c.law_of_soup.ensures.few))) (omega (arith, c.vertices.ensures.count)) (omega (arith, c.faces.ensures.count)) (omega arith))

pub returns-in_err-write_head : goal.returns-in_err-write_head
returns-in_err-write_head c =
    let h = (goal.at.returns-in_err-write_head c).After-write_head in
    let t = texts h in
    let r = c.from_residual.result in
    let p = err_from_is_err_and r c.from_residual.ensures.1 in
    record { reread = (headed h).1; puts = puts_stop c.args.page.now c.write_head.new.page t.0 (t.1 ++ t.2) c.write_head.result _ r c.in_err-write_head.was (rw (p.1, p.2) refl) (headed h).0 }

pub returns-in_err-write_points : goal.returns-in_err-write_points
returns-in_err-write_points c =
    let h = (goal.at.returns-in_err-write_points c).After-write_head in
    let t = texts h in
    let p1 = c.write_head.new.page in
    let p2 = c.write_points.new.page in
    let r = c.from_residual-in_err-write_points.result in
    let p = err_from_is_err_and r c.from_residual-in_err-write_points.ensures.1 in
    let stops = puts_stop p1 p2 t.1 t.2 c.write_points.result _ r c.in_err-write_points.was (rw (p.1, p.2) refl) (rw (← c.vertices-2.ensures.count) c.write_points.ensures.puts) in
    record { reread = (headed h).1; puts = puts_more c.args.page.now p1 p2 t.0 (t.1 ++ t.2) c.write_head.result _ r c.in_ok-write_head.was (headed h).0 stops }

pub returns : goal.returns
returns c =
    let h = (goal.at.returns c).After-write_head in
    let t = texts h in
    let p1 = c.write_head.new.page in
    let p2 = c.write_points.new.page in
    let p3 = c.write_plain_faces.new.page in
    let more = puts_more p1 p2 p3 t.1 t.2 c.write_points.result _ c.write_plain_faces.result c.in_ok-write_points.was (rw (← c.vertices-2.ensures.count) c.write_points.ensures.puts) c.write_plain_faces.ensures.puts in
    record { reread = (headed h).1; puts = puts_more c.args.page.now p1 p3 t.0 (t.1 ++ t.2) c.write_head.result _ c.write_plain_faces.result c.in_ok-write_head.was (headed h).0 more }
