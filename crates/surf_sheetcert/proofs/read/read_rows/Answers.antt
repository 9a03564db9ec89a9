use Rattle.surf_cert.proofs.Common.{arith, ◌-◌, ◌≡◌, err_from_is_err_and, rows_of}
use Rattle.surf_cert.proofs.RowLines.{push_one, list_start, row_more, row_bad, rows_done}
use Rattle.surf_sheetcert.specs.Lines.{sheet_on}
use Rattle.surf_sheetcert.proofs.read.read_rows.Goals as goal

pub loop-init : goal.loop-init
loop-init c =
    let all : c.args.count - 0 ≡ c.args.count = omega arith in
    rw (c.new-sheets.ensures.items, all) (list_start (rows_of sheet_on c.args.count c.args.lines.now))

pub returns-in_err-next_sheet : goal.returns-in_err-next_sheet
returns-in_err-next_sheet c =
    let p = err_from_is_err_and c.from_residual.result c.from_residual.ensures.1 in
    rw (p.1, p.2) (record { rows = λ other. row_bad sheet_on push_one c.args.count c.loop.counter c.loop.sheets.items c.loop.lines _ c.loop.invariant c.in_err-next_sheet.field-0.0 c.loop-test.true (c.in_err-next_sheet.ensures.sheet other) })

pub loop-preserved : goal.loop-preserved
loop-preserved c = rw c.in_ok-push.ensures.items (row_more sheet_on push_one c.args.count c.loop.counter c.loop.sheets.items c.loop.lines _ c.loop.invariant c.in_ok-next_sheet.field-0 c.next_sheet.new.lines c.loop-test.true c.in_ok-next_sheet.ensures.sheet)

pub returns : goal.returns
returns c = record { rows = rows_done sheet_on push_one c.args.count c.loop.counter c.loop.sheets.items c.loop.lines _ c.loop.invariant c.loop-test.false }
