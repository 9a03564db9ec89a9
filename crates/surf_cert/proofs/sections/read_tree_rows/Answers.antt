use Rattle.surf_cert.proofs.Common.{arith, ◌≡◌, ◌-◌, err_from_is_err_and, TreeRows, tree_row}
use Rattle.surf_cert.proofs.RowLines.{push_vertex, tree_start, row_more, row_bad, rows_done}
use Rattle.surf_cert.proofs.sections.read_tree_rows.Goals as goal

pub loop-init : goal.loop-init
loop-init c =
    let all : c.args.vertices - 0 ≡ c.args.vertices = omega arith in
    rw (c.in_ok-distance.ensures.items, c.in_ok-parent.ensures.items, all) (tree_start c.args.base c.args.vertices c.args.lines.now)

pub returns-in_err-row : goal.returns-in_err-row
returns-in_err-row c =
    let p = err_from_is_err_and c.from_residual-in_err-row.result c.from_residual-in_err-row.ensures.1 in
    let rows : TreeRows = record { base = c.args.base; distance = c.loop.distance.items; parent = c.loop.parent.items } in
    rw (p.1, p.2) (record { tree = λ other. row_bad tree_row push_vertex c.args.vertices c.loop.counter rows c.loop.lines _ c.loop.invariant c.in_err-row.field-0.0 c.loop-test.true (c.in_err-row.ensures.row other) })

pub loop-preserved : goal.loop-preserved
loop-preserved c =
    let rows : TreeRows = record { base = c.args.base; distance = c.loop.distance.items; parent = c.loop.parent.items } in
    rw (c.in_ok-push.ensures.items, c.in_ok-push-2.ensures.items) (row_more tree_row push_vertex c.args.vertices c.loop.counter rows c.loop.lines _ c.loop.invariant c.in_ok-row.row c.next_tree_row.new.lines c.loop-test.true c.in_ok-row.ensures.row)

pub returns : goal.returns
returns c =
    let rows : TreeRows = record { base = c.args.base; distance = c.loop.distance.items; parent = c.loop.parent.items } in
    record { tree = rw c.make.ensures.rows (rows_done tree_row push_vertex c.args.vertices c.loop.counter rows c.loop.lines _ c.loop.invariant c.loop-test.false) }
