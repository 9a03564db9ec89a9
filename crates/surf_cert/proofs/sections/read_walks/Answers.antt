use Rattle.surf_cert.proofs.Common.{arith, ◌-◌, ◌≡◌, err_from_is_err_and, cycle_of, rows_of}
use Rattle.surf_cert.proofs.RowLines.{push_one, list_start, row_more, row_bad, rows_done}
use Rattle.surf_cert.proofs.sections.read_walks.Goals as goal

pub loop-init : goal.loop-init
loop-init c =
    let all : c.args.count - 0 ≡ c.args.count = omega arith in
    rw (c.new-walks.ensures.items, all) (list_start (rows_of cycle_of c.args.count c.args.lines.now))

pub returns-in_err-next_cycle : goal.returns-in_err-next_cycle
returns-in_err-next_cycle c =
    let p = err_from_is_err_and c.from_residual.result c.from_residual.ensures.1 in
    rw (p.1, p.2) (record { walks = λ other. row_bad cycle_of push_one c.args.count c.loop.counter c.loop.walks.items c.loop.lines _ c.loop.invariant c.in_err-next_cycle.field-0.0 c.loop-test.true (c.in_err-next_cycle.ensures.cycle other) })

pub loop-preserved : goal.loop-preserved
loop-preserved c = rw c.in_ok-push.ensures.items (row_more cycle_of push_one c.args.count c.loop.counter c.loop.walks.items c.loop.lines _ c.loop.invariant c.in_ok-next_cycle.field-0 c.next_cycle.new.lines c.loop-test.true c.in_ok-next_cycle.ensures.cycle)

pub returns : goal.returns
returns c = record { walks = rows_done cycle_of push_one c.args.count c.loop.counter c.loop.walks.items c.loop.lines _ c.loop.invariant c.loop-test.false }
