use Rattle.surf_cert.proofs.Common.{◌<◌, ℕ, List, length, get_or, Option, refl, ◌∙◌, ap, subst, flat_map, arith, zip, err_from_is_err_and, Puts, loop_more, loop_stop, loop_done, face_line}
use Rattle.surf_cert.proofs.WrittenRows.{row_below, rows_end, row_at}
use Rattle.surf_cert.proofs.write.write_faces.Goals as goal

pub returns-in_err-write_face : goal.returns-in_err-write_face
returns-in_err-write_face c =
    let xs = zip c.args.dual.now.depth c.args.dual.now.side in
    let i = c.loop-f.f in
    let lt : i < length xs = row_below c.args.dual.now.depth c.args.dual.now.side c.requires.same i (omega (arith, c.loop-f-test.true, ap length c.depth-depth.ensures.depth)) in
    let row = row_at c.args.dual.now.depth c.args.dual.now.side c.requires.same i (get_or c.depth-depth.result.now i 0) c.index-side-f.result (omega (arith, c.loop-f-test.true, ap length c.depth-depth.ensures.depth))
    (ap (λ (ns : List ℕ). get_or ns i 0) c.depth-depth.ensures.depth) (c.index-side-f.is ∙ ap (λ (ys : List (Option (ℕ × ℕ))). get_or ys i c.index-side-f.result) c.side-side.ensures.side) in
    let one : Puts c.loop-f.page c.write_face.new.page (face_line (get_or xs i (0, c.index-side-f.result))) c.write_face.result = subst (λ (row : ℕ × Option (ℕ × ℕ)). Puts c.loop-f.page c.write_face.new.page (face_line row) c.write_face.result) row c.write_face.ensures.puts in
    let p = err_from_is_err_and c.from_residual.result c.from_residual.ensures.1 in
    record { puts = loop_stop (flat_map face_line) face_line refl (λ x xs. refl) xs i (0, c.index-side-f.result) lt c.args.page.now c.loop-f.page c.write_face.new.page (tt {0}) c.loop-f.invariant c.write_face.result c.in_err-write_face.field-0.0 c.from_residual.result c.in_err-write_face.was (rw (p.1, p.2) refl) one }

pub loop-f-preserved : goal.loop-f-preserved
loop-f-preserved c =
    let xs = zip c.args.dual.now.depth c.args.dual.now.side in
    let i = c.loop-f.f in
    let lt : i < length xs = row_below c.args.dual.now.depth c.args.dual.now.side c.requires.same i (omega (arith, c.loop-f-test.true, ap length c.depth-depth.ensures.depth)) in
    let row = row_at c.args.dual.now.depth c.args.dual.now.side c.requires.same i (get_or c.depth-depth.result.now i 0) c.index-side-f.result (omega (arith, c.loop-f-test.true, ap length c.depth-depth.ensures.depth))
    (ap (λ (ns : List ℕ). get_or ns i 0) c.depth-depth.ensures.depth) (c.index-side-f.is ∙ ap (λ (ys : List (Option (ℕ × ℕ))). get_or ys i c.index-side-f.result) c.side-side.ensures.side) in
    let one : Puts c.loop-f.page c.write_face.new.page (face_line (get_or xs i (0, c.index-side-f.result))) c.write_face.result = subst (λ (row : ℕ × Option (ℕ × ℕ)). Puts c.loop-f.page c.write_face.new.page (face_line row) c.write_face.result) row c.write_face.ensures.puts in
    loop_more (flat_map face_line) face_line refl (λ x xs. refl) xs i (0, c.index-side-f.result) lt c.args.page.now c.loop-f.page c.write_face.new.page (tt {0}) c.loop-f.invariant c.write_face.result c.in_ok-write_face.field-0 c.in_ok-write_face.was one

pub returns : goal.returns
returns c =
    let xs = zip c.args.dual.now.depth c.args.dual.now.side in
    let le = rows_end c.args.dual.now.depth c.args.dual.now.side c.requires.same c.loop-f.f (omega (arith, c.loop-f-test.false, ap length c.depth-depth.ensures.depth)) in
    record { puts = loop_done (flat_map face_line) face_line refl (λ x xs. refl) xs c.loop-f.f c.args.page.now c.loop-f.page (tt {0}) le c.loop-f.invariant }
