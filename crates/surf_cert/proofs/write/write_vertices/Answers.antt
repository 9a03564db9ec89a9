use Rattle.surf_cert.proofs.Common.{◌<◌, ℕ, List, length, get_or, Option, refl, ◌∙◌, ap, subst, flat_map, arith, zip, err_from_is_err_and, Puts, loop_more, loop_stop, loop_done, vertex_line}
use Rattle.surf_cert.proofs.WrittenRows.{row_below, rows_end, row_at}
use Rattle.surf_cert.proofs.write.write_vertices.Goals as goal

pub returns-in_err-write_vertex : goal.returns-in_err-write_vertex
returns-in_err-write_vertex c =
    let xs = zip c.args.tree.now.distance c.args.tree.now.parent in
    let i = c.loop-v.v in
    let lt : i < length xs = row_below c.args.tree.now.distance c.args.tree.now.parent c.requires.same i (omega (arith, c.loop-v-test.true, ap length c.distance-distance.ensures.distance)) in
    let row = row_at c.args.tree.now.distance c.args.tree.now.parent c.requires.same i (get_or c.distance-distance.result.now i 0) c.index-parent-v.result (omega (arith, c.loop-v-test.true, ap length c.distance-distance.ensures.distance))
    (ap (λ (ns : List ℕ). get_or ns i 0) c.distance-distance.ensures.distance) (c.index-parent-v.is ∙ ap (λ (ys : List (Option ℕ)). get_or ys i c.index-parent-v.result) c.parent-parent.ensures.parent) in
    let one : Puts c.loop-v.page c.write_vertex.new.page (vertex_line (get_or xs i (0, c.index-parent-v.result))) c.write_vertex.result = subst (λ (row : ℕ × Option ℕ). Puts c.loop-v.page c.write_vertex.new.page (vertex_line row) c.write_vertex.result) row c.write_vertex.ensures.puts in
    let p = err_from_is_err_and c.from_residual.result c.from_residual.ensures.1 in
    record { puts = loop_stop (flat_map vertex_line) vertex_line refl (λ x xs. refl) xs i (0, c.index-parent-v.result) lt c.args.page.now c.loop-v.page c.write_vertex.new.page (tt {0}) c.loop-v.invariant c.write_vertex.result c.in_err-write_vertex.field-0.0 c.from_residual.result c.in_err-write_vertex.was (rw (p.1, p.2) refl) one }

pub loop-v-preserved : goal.loop-v-preserved
loop-v-preserved c =
    let xs = zip c.args.tree.now.distance c.args.tree.now.parent in
    let i = c.loop-v.v in
    let lt : i < length xs = row_below c.args.tree.now.distance c.args.tree.now.parent c.requires.same i (omega (arith, c.loop-v-test.true, ap length c.distance-distance.ensures.distance)) in
    let row = row_at c.args.tree.now.distance c.args.tree.now.parent c.requires.same i (get_or c.distance-distance.result.now i 0) c.index-parent-v.result (omega (arith, c.loop-v-test.true, ap length c.distance-distance.ensures.distance))
    (ap (λ (ns : List ℕ). get_or ns i 0) c.distance-distance.ensures.distance) (c.index-parent-v.is ∙ ap (λ (ys : List (Option ℕ)). get_or ys i c.index-parent-v.result) c.parent-parent.ensures.parent) in
    let one : Puts c.loop-v.page c.write_vertex.new.page (vertex_line (get_or xs i (0, c.index-parent-v.result))) c.write_vertex.result = subst (λ (row : ℕ × Option ℕ). Puts c.loop-v.page c.write_vertex.new.page (vertex_line row) c.write_vertex.result) row c.write_vertex.ensures.puts in
    loop_more (flat_map vertex_line) vertex_line refl (λ x xs. refl) xs i (0, c.index-parent-v.result) lt c.args.page.now c.loop-v.page c.write_vertex.new.page (tt {0}) c.loop-v.invariant c.write_vertex.result c.in_ok-write_vertex.field-0 c.in_ok-write_vertex.was one

pub returns : goal.returns
returns c =
    let xs = zip c.args.tree.now.distance c.args.tree.now.parent in
    let le = rows_end c.args.tree.now.distance c.args.tree.now.parent c.requires.same c.loop-v.v (omega (arith, c.loop-v-test.false, ap length c.distance-distance.ensures.distance)) in
    record { puts = loop_done (flat_map vertex_line) vertex_line refl (λ x xs. refl) xs c.loop-v.v c.args.page.now c.loop-v.page (tt {0}) le c.loop-v.invariant }
