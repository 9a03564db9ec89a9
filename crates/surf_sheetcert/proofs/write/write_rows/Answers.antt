use Rattle.surf_cert.proofs.Common.{◌<◌, ◌≤◌, length, get_or, refl, subst, flat_map, err_from_is_err_and, Puts, loop_more, loop_stop, loop_done}
use Rattle.surf_sheets.specs.Rows.{SheetRow}
use Rattle.surf_sheetcert.specs.Written.{sheet_line}
use Rattle.surf_sheetcert.proofs.write.write_rows.Goals as goal

pub returns-in_err-write_sheet : goal.returns-in_err-write_sheet
returns-in_err-write_sheet c =
    let xs = c.args.sheets.now in
    let i = c.loop-sheet.sheet-index in
    let lt : i < length xs = c.loop-sheet-test.true in
    let one : Puts c.loop-sheet.page c.write_sheet.new.page (sheet_line (get_or xs i c.sheet-item.result)) c.write_sheet.result = subst (λ (x : SheetRow). Puts c.loop-sheet.page c.write_sheet.new.page (sheet_line x) c.write_sheet.result) c.sheet-item.is (c.write_sheet.ensures.puts) in
    let p = err_from_is_err_and c.from_residual.result c.from_residual.ensures.1 in
    record { puts = loop_stop (flat_map sheet_line) sheet_line refl (λ x xs. refl) xs i c.sheet-item.result lt c.args.page.now c.loop-sheet.page c.write_sheet.new.page (tt {0}) c.loop-sheet.invariant c.write_sheet.result c.in_err-write_sheet.field-0.0 c.from_residual.result c.in_err-write_sheet.was (rw (p.1, p.2) refl) one }

pub loop-sheet-preserved : goal.loop-sheet-preserved
loop-sheet-preserved c =
    let xs = c.args.sheets.now in
    let i = c.loop-sheet.sheet-index in
    let lt : i < length xs = c.loop-sheet-test.true in
    let one : Puts c.loop-sheet.page c.write_sheet.new.page (sheet_line (get_or xs i c.sheet-item.result)) c.write_sheet.result = subst (λ (x : SheetRow). Puts c.loop-sheet.page c.write_sheet.new.page (sheet_line x) c.write_sheet.result) c.sheet-item.is (c.write_sheet.ensures.puts) in
    loop_more (flat_map sheet_line) sheet_line refl (λ x xs. refl) xs i c.sheet-item.result lt c.args.page.now c.loop-sheet.page c.write_sheet.new.page (tt {0}) c.loop-sheet.invariant c.write_sheet.result c.in_ok-write_sheet.field-0 c.in_ok-write_sheet.was one

pub returns : goal.returns
returns c =
    let xs = c.args.sheets.now in
    let le : length xs ≤ c.loop-sheet.sheet-index = c.loop-sheet-test.false in
    record { puts = loop_done (flat_map sheet_line) sheet_line refl (λ x xs. refl) xs c.loop-sheet.sheet-index c.args.page.now c.loop-sheet.page (tt {0}) le c.loop-sheet.invariant }
