use Rattle.surf_surfaces.proofs.Common.{◌≡◌, ◌<◌, ◌≤◌, ℕ, List, [], length, get_or, refl, ◌∙◌, ap, arith, zip, length-map, err_from_is_err_and, length-zip}
use Rattle.surf_text.specs.Pages.{Puts}
use Rattle.surf_text.proofs.Writing.{loop_more, loop_stop, loop_done}
use Rattle.surf_off.specs.Written.{face_text, faces_text, no_colours}
use Rattle.surf_off.proofs.FaceRows.{get_or-zip, no_colour}
use Rattle.surf_off.proofs.made.write_plain_faces.Goals as goal

pub returns-in_err-write_face : goal.returns-in_err-write_face
returns-in_err-write_face c =
    let faces = c.args.soup.now.faces in
    let colours = no_colours faces in
    let f = c.loop-f.f in
    let piece : List ℕ × List ℕ → List ℕ = λ x. face_text x.0 x.1 in
    let some : length colours ≡ length faces = length-map faces _ in
    let count : c.faces-f-end.result ≡ length faces = c.faces-f-end.ensures.count in
    let lt : f < length (zip faces colours) = omega (arith, length-zip faces colours, some, count, c.loop-f-test.true) in
    let at : get_or (zip faces colours) f ([], []) ≡ (get_or faces f [], get_or colours f []) = get_or-zip faces colours f (omega (arith, count, c.loop-f-test.true)) (omega (arith, some, count, c.loop-f-test.true)) in
    let face : c.face.result.now ≡ get_or faces f [] = c.face.ensures.corners ∙ ap (λ (k : ℕ). get_or faces k []) c.new.ensures in
    let one : Puts c.loop-f.page c.write_face.new.page (piece (get_or (zip faces colours) f ([], []))) c.write_face.result = rw (at, no_colour faces f, ← face) c.write_face.ensures.puts in
    let p = err_from_is_err_and c.from_residual.result c.from_residual.ensures.1 in
    record { puts = loop_stop faces_text piece refl (λ x xs. refl) (zip faces colours) f ([], []) lt c.args.page.now c.loop-f.page c.write_face.new.page (tt {0}) c.loop-f.invariant c.write_face.result c.in_err-write_face.field-0.0 c.from_residual.result c.in_err-write_face.was (rw (p.1, p.2) refl) one }

pub loop-f-preserved : goal.loop-f-preserved
loop-f-preserved c =
    let faces = c.args.soup.now.faces in
    let colours = no_colours faces in
    let f = c.loop-f.f in
    let piece : List ℕ × List ℕ → List ℕ = λ x. face_text x.0 x.1 in
    let some : length colours ≡ length faces = length-map faces _ in
    let count : c.faces-f-end.result ≡ length faces = c.faces-f-end.ensures.count in
    let lt : f < length (zip faces colours) = omega (arith, length-zip faces colours, some, count, c.loop-f-test.true) in
    let at : get_or (zip faces colours) f ([], []) ≡ (get_or faces f [], get_or colours f []) = get_or-zip faces colours f (omega (arith, count, c.loop-f-test.true)) (omega (arith, some, count, c.loop-f-test.true)) in
    let face : c.face.result.now ≡ get_or faces f [] = c.face.ensures.corners ∙ ap (λ (k : ℕ). get_or faces k []) c.new.ensures in
    let one : Puts c.loop-f.page c.write_face.new.page (piece (get_or (zip faces colours) f ([], []))) c.write_face.result = rw (at, no_colour faces f, ← face) c.write_face.ensures.puts in
    loop_more faces_text piece refl (λ x xs. refl) (zip faces colours) f ([], []) lt c.args.page.now c.loop-f.page c.write_face.new.page (tt {0}) c.loop-f.invariant c.write_face.result c.in_ok-write_face.field-0 c.in_ok-write_face.was one

pub returns : goal.returns
returns c =
    let faces = c.args.soup.now.faces in
    let colours = no_colours faces in
    let some : length colours ≡ length faces = length-map faces _ in
    let le : length (zip faces colours) ≤ c.loop-f.f = omega (arith, length-zip faces colours, some, c.faces-f-end.ensures.count, c.loop-f-test.false) in
    record { puts = loop_done faces_text (λ x. face_text x.0 x.1) refl (λ x xs. refl) (zip faces colours) c.loop-f.f c.args.page.now c.loop-f.page (tt {0}) le c.loop-f.invariant }
