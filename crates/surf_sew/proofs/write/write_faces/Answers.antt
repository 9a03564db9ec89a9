use Rattle.surf_sew.proofs.Common.{◌≡◌, ◌<◌, ◌≤◌, ℕ, List, [], length, get_or, refl, ◌∙◌, ap, arith, zip, err_from_is_err_and, length-zip, Puts, loop_more, loop_stop, loop_done, face_text, faces_text, get_or-zip}
use Rattle.surf_sew.proofs.write.write_faces.Goals as goal

pub returns-in_err-write_face : goal.returns-in_err-write_face
returns-in_err-write_face c =
    let faces = c.args.mesh.now.faces in
    let colours = c.args.text.now.colours in
    let f = c.loop-f.f in
    let piece : List ℕ × List ℕ → List ℕ = λ x. face_text x.0 x.1 in
    let count : c.faces-f-end.result ≡ length faces = c.faces-f-end.ensures.count in
    let lt : f < length (zip faces colours) = omega (arith, length-zip faces colours, c.requires.faces, count, c.loop-f-test.true) in
    let at : get_or (zip faces colours) f ([], []) ≡ (get_or faces f [], get_or colours f []) = get_or-zip faces colours f (omega (arith, count, c.loop-f-test.true)) (omega (arith, c.requires.faces, count, c.loop-f-test.true)) in
    let face : c.face.result.now ≡ get_or faces f [] = c.face.ensures.corners ∙ ap (λ (k : ℕ). get_or faces k []) c.new-face.ensures in
    let colour : c.colour.result.now ≡ get_or colours f [] = c.colour.ensures.colour ∙ ap (λ (k : ℕ). get_or colours k []) c.new-face.ensures in
    let one : Puts c.loop-f.page c.write_face.new.page (piece (get_or (zip faces colours) f ([], []))) c.write_face.result = rw (at, ← face, ← colour) c.write_face.ensures.puts in
    let p = err_from_is_err_and c.from_residual.result c.from_residual.ensures.1 in
    record { puts = loop_stop faces_text piece refl (λ x xs. refl) (zip faces colours) f ([], []) lt c.args.page.now c.loop-f.page c.write_face.new.page (tt {0}) c.loop-f.invariant c.write_face.result c.in_err-write_face.field-0.0 c.from_residual.result c.in_err-write_face.was (rw (p.1, p.2) refl) one }

pub loop-f-preserved : goal.loop-f-preserved
loop-f-preserved c =
    let faces = c.args.mesh.now.faces in
    let colours = c.args.text.now.colours in
    let f = c.loop-f.f in
    let piece : List ℕ × List ℕ → List ℕ = λ x. face_text x.0 x.1 in
    let count : c.faces-f-end.result ≡ length faces = c.faces-f-end.ensures.count in
    let lt : f < length (zip faces colours) = omega (arith, length-zip faces colours, c.requires.faces, count, c.loop-f-test.true) in
    let at : get_or (zip faces colours) f ([], []) ≡ (get_or faces f [], get_or colours f []) = get_or-zip faces colours f (omega (arith, count, c.loop-f-test.true)) (omega (arith, c.requires.faces, count, c.loop-f-test.true)) in
    let face : c.face.result.now ≡ get_or faces f [] = c.face.ensures.corners ∙ ap (λ (k : ℕ). get_or faces k []) c.new-face.ensures in
    let colour : c.colour.result.now ≡ get_or colours f [] = c.colour.ensures.colour ∙ ap (λ (k : ℕ). get_or colours k []) c.new-face.ensures in
    let one : Puts c.loop-f.page c.write_face.new.page (piece (get_or (zip faces colours) f ([], []))) c.write_face.result = rw (at, ← face, ← colour) c.write_face.ensures.puts in
    loop_more faces_text piece refl (λ x xs. refl) (zip faces colours) f ([], []) lt c.args.page.now c.loop-f.page c.write_face.new.page (tt {0}) c.loop-f.invariant c.write_face.result c.in_ok-write_face.field-0 c.in_ok-write_face.was one

pub returns : goal.returns
returns c =
    let faces = c.args.mesh.now.faces in
    let colours = c.args.text.now.colours in
    let le : length (zip faces colours) ≤ c.loop-f.f = omega (arith, length-zip faces colours, c.requires.faces, c.faces-f-end.ensures.count, c.loop-f-test.false) in
    record { puts = loop_done faces_text (λ x. face_text x.0 x.1) refl (λ x xs. refl) (zip faces colours) c.loop-f.f c.args.page.now c.loop-f.page (tt {0}) le c.loop-f.invariant }
