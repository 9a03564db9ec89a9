use Rattle.surf_cert.proofs.Common.{◌≡◌, ◌-◌, rows_of}
use Rattle.surf_cert.proofs.RowLines.{with_rows, push_one}
use Rattle.surf_sheetcert.specs.Lines.{sheet_on}
use Rattle.surf_sheetcert.proofs.read.read_rows.Given as goal

abbrev pub invariant-loop : goal.invariant-loop
invariant-loop l = with_rows push_one l.sheets.items (rows_of sheet_on (l.count - l.counter) l.lines) ≡ rows_of sheet_on l.count l.fn.lines
