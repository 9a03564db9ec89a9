use Rattle.surf_surfaces.proofs.Common.{◌≡◌, ◌<◌, ◌≤◌, ◌+◌, ℕ, List, [], length, get_or, refl, arith, zip, err_from_is_err_and, map-id, length-zip}
use Rattle.surf_text.specs.Pages.{Puts}
use Rattle.surf_text.proofs.Writing.{loop_more, loop_stop, loop_done}
use Rattle.surf_off.specs.Written.{face_text, faces_text, rows_at}
use Rattle.surf_off.proofs.FaceRows.{rows_length, get_or-zip}
use Rattle.surf_off.proofs.write.write_faces.Goals as goal

pub returns-in_err-put_face : goal.returns-in_err-put_face
returns-in_err-put_face c =
    let rows = rows_at c.args.starts.now c.args.corners.now in
    let colours = c.args.text.now.colours in
    let f = c.loop-f.f in
    let piece : List ℕ × List ℕ → List ℕ = λ x. face_text x.0 x.1 in
    let p = err_from_is_err_and c.from_residual.result c.from_residual.ensures.1 in
    let count : length rows + 1 ≡ length c.args.starts.now = rows_length c.args.starts.now c.args.corners.now (length c.args.corners.now) c.requires.starts in
    let lt : f < length (zip rows colours) = omega (arith, length-zip rows colours, count, c.requires.count) in
    let at : get_or (zip rows colours) f ([], []) ≡ (get_or rows f [], get_or colours f []) = get_or-zip rows colours f (omega arith) (omega (arith, c.requires.count)) in
    let one : Puts c.loop-f.page c.put_face.new.page (piece (get_or (zip rows colours) f ([], []))) c.put_face.result =
    rw (at, ← c.face_at.ensures.face, ← c.colour_at.ensures.colour, ← map-id c.face_at.result.now) c.put_face.ensures.puts in
    record { puts = loop_stop faces_text piece refl (λ x xs. refl) (zip rows colours) f ([], []) lt c.args.page.now c.loop-f.page c.put_face.new.page (tt {0}) c.loop-f.invariant c.put_face.result c.in_err-put_face.field-0.0 c.from_residual.result c.in_err-put_face.was (rw (p.1, p.2) refl) one }

pub loop-f-preserved : goal.loop-f-preserved
loop-f-preserved c =
    let rows = rows_at c.args.starts.now c.args.corners.now in
    let colours = c.args.text.now.colours in
    let f = c.loop-f.f in
    let piece : List ℕ × List ℕ → List ℕ = λ x. face_text x.0 x.1 in
    let count : length rows + 1 ≡ length c.args.starts.now = rows_length c.args.starts.now c.args.corners.now (length c.args.corners.now) c.requires.starts in
    let lt : f < length (zip rows colours) = omega (arith, length-zip rows colours, count, c.requires.count) in
    let at : get_or (zip rows colours) f ([], []) ≡ (get_or rows f [], get_or colours f []) = get_or-zip rows colours f (omega arith) (omega (arith, c.requires.count)) in
    let one : Puts c.loop-f.page c.put_face.new.page (piece (get_or (zip rows colours) f ([], []))) c.put_face.result =
    rw (at, ← c.face_at.ensures.face, ← c.colour_at.ensures.colour, ← map-id c.face_at.result.now) c.put_face.ensures.puts in
    loop_more faces_text piece refl (λ x xs. refl) (zip rows colours) f ([], []) lt c.args.page.now c.loop-f.page c.put_face.new.page (tt {0}) c.loop-f.invariant c.put_face.result c.in_ok-put_face.field-0 c.in_ok-put_face.was one

pub returns : goal.returns
returns c =
    let rows = rows_at c.args.starts.now c.args.corners.now in
    let colours = c.args.text.now.colours in
    let count : length rows + 1 ≡ length c.args.starts.now = rows_length c.args.starts.now c.args.corners.now (length c.args.corners.now) c.requires.starts in
    let le : length (zip rows colours) ≤ c.loop-f.f = omega (arith, length-zip rows colours, count, c.requires.count, c.loop-f-test.false) in
    record { puts = loop_done faces_text (λ x. face_text x.0 x.1) refl (λ x xs. refl) (zip rows colours) c.loop-f.f c.args.page.now c.loop-f.page (tt {0}) le c.loop-f.invariant }
