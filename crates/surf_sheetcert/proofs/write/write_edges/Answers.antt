use Rattle.surf_cert.proofs.Common.{◌<◌, ℕ, List, [], length, get_or, refl, ◌∙◌, ap, subst, flat_map, arith, zip, err_from_is_err_and, Puts, loop_more, loop_stop, loop_done}
use Rattle.surf_sheetcert.specs.Lines.{Cocycles}
use Rattle.surf_sheetcert.specs.Written.{cocycles_line}
use Rattle.surf_sheetcert.proofs.WrittenRows.{row_below, rows_end, row_at}
use Rattle.surf_sheetcert.proofs.write.write_edges.Goals as goal
use Rattle.surf_sheetcert.proofs.write.write_edges.Goals.{After-write_edge}

-- one edge is put
one : (c : After-write_edge) → Puts c.loop-j.page c.write_edge.new.page
    (cocycles_line (get_or (zip c.args.cert.now.edges c.args.cert.now.numbers) c.loop-j.j (c.index-edges-j.result, []))) c.write_edge.result
one c =
    let cert = c.args.cert.now in
    let j = c.loop-j.j in
    let edges = c.edges-edges.ensures.edges in
    let lt : j < length cert.edges = omega (arith, c.loop-j-test.true, ap length edges) in
    let first = c.index-edges-j.is ∙ ap (λ (ps : List (ℕ × ℕ)). get_or ps j c.index-edges-j.result) edges in
    let second = c.row.ensures ∙ ap (λ (ns : List (List ℕ)). get_or ns j []) c.numbers-numbers.ensures.numbers in
    let row = row_at cert.edges cert.numbers c.edges-edges.ensures.rows j c.index-edges-j.result c.row.result.now [] lt first second in
    subst (λ (row : Cocycles). Puts c.loop-j.page c.write_edge.new.page (cocycles_line row) c.write_edge.result) row c.write_edge.ensures.puts

pub returns-in_err-write_edge : goal.returns-in_err-write_edge
returns-in_err-write_edge c =
    let cert = c.args.cert.now in
    let xs = zip cert.edges cert.numbers in
    let j = c.loop-j.j in
    let lt : j < length xs = row_below cert.edges cert.numbers c.edges-edges.ensures.rows j (omega (arith, c.loop-j-test.true, ap length c.edges-edges.ensures.edges)) in
    let p = err_from_is_err_and c.from_residual.result c.from_residual.ensures.1 in
    record { puts = loop_stop (flat_map cocycles_line) cocycles_line refl (λ x xs. refl) xs j (c.index-edges-j.result, []) lt c.args.page.now c.loop-j.page c.write_edge.new.page (tt {0}) c.loop-j.invariant c.write_edge.result c.in_err-write_edge.field-0.0 c.from_residual.result c.in_err-write_edge.was (rw (p.1, p.2) refl) (one (goal.at.returns-in_err-write_edge c).After-write_edge) }

pub loop-j-preserved : goal.loop-j-preserved
loop-j-preserved c =
    let cert = c.args.cert.now in
    let xs = zip cert.edges cert.numbers in
    let j = c.loop-j.j in
    let lt : j < length xs = row_below cert.edges cert.numbers c.edges-edges.ensures.rows j (omega (arith, c.loop-j-test.true, ap length c.edges-edges.ensures.edges)) in
    loop_more (flat_map cocycles_line) cocycles_line refl (λ x xs. refl) xs j (c.index-edges-j.result, []) lt c.args.page.now c.loop-j.page c.write_edge.new.page (tt {0}) c.loop-j.invariant c.write_edge.result c.in_ok-write_edge.field-0 c.in_ok-write_edge.was (one (goal.at.loop-j-preserved c).After-write_edge)

pub returns : goal.returns
returns c =
    let cert = c.args.cert.now in
    let xs = zip cert.edges cert.numbers in
    let le = rows_end cert.edges cert.numbers c.edges-edges.ensures.rows c.loop-j.j (omega (arith, c.loop-j-test.false, ap length c.edges-edges.ensures.edges)) in
    record { puts = loop_done (flat_map cocycles_line) cocycles_line refl (λ x xs. refl) xs c.loop-j.j c.args.page.now c.loop-j.page (tt {0}) le c.loop-j.invariant }
