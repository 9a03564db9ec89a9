use Rattle.surf_cert.proofs.Common.{arith, ◌≡◌, ◌-◌, err_from_is_err_and, DualRows, dual_row}
use Rattle.surf_cert.proofs.RowLines.{push_face, faces_start, row_more, row_bad, rows_done}
use Rattle.surf_cert.proofs.sections.read_more_faces.Goals as goal

pub loop-init : goal.loop-init
loop-init c =
    let all : c.args.faces - 0 ≡ c.args.faces = omega arith in
    rw all (faces_start _ c.args.faces c.args.lines.now)

pub returns-in_err-row : goal.returns-in_err-row
returns-in_err-row c =
    let p = err_from_is_err_and c.from_residual.result c.from_residual.ensures.1 in
    let rows : DualRows = record { depth = c.loop.depth.items; side = c.loop.side.items } in
    rw (p.1, p.2) (record { more = λ other. row_bad dual_row push_face c.args.faces c.loop.counter rows c.loop.lines _ c.loop.invariant c.in_err-row.field-0.0 c.loop-test.true (c.in_err-row.ensures.row other) })

pub loop-preserved : goal.loop-preserved
loop-preserved c =
    let rows : DualRows = record { depth = c.loop.depth.items; side = c.loop.side.items } in
    rw (c.in_ok-push.ensures.items, c.in_ok-push-2.ensures.items) (row_more dual_row push_face c.args.faces c.loop.counter rows c.loop.lines _ c.loop.invariant c.in_ok-row.row c.next_dual_row.new.lines c.loop-test.true c.in_ok-row.ensures.row)

pub returns : goal.returns
returns c =
    let rows : DualRows = record { depth = c.loop.depth.items; side = c.loop.side.items } in
    record { more = rows_done dual_row push_face c.args.faces c.loop.counter rows c.loop.lines _ c.loop.invariant c.loop-test.false }
