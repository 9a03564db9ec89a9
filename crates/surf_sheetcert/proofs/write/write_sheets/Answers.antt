use Rattle.surf_cert.proofs.Common.{ℕ, List, ◌++◌, length, refl, flat_map, codes, decimal, err_from_is_err_and, puts_more, puts_stop}
use Rattle.surf_sheetcert.specs.Written.{sheet_line}
use Rattle.surf_sheetcert.proofs.write.write_sheets.Goals as goal

abbrev head_text : ℕ → List ℕ
head_text count = codes "sheets " ++ (decimal count ++ codes "\n")

pub returns-in_err-write_count : goal.returns-in_err-write_count
returns-in_err-write_count c =
    let r = c.from_residual.result in
    let p = err_from_is_err_and r c.from_residual.ensures.1 in
    record { puts = puts_stop c.args.page.now c.write_count.new.page (head_text (length c.args.sheets.now)) (flat_map sheet_line c.args.sheets.now) c.write_count.result c.in_err-write_count.field-0.0 r c.in_err-write_count.was (rw (p.1, p.2) refl) c.write_count.ensures.puts }

pub returns : goal.returns
returns c = record { puts = puts_more c.args.page.now c.write_count.new.page c.write_rows.new.page (head_text (length c.args.sheets.now)) (flat_map sheet_line c.args.sheets.now) c.write_count.result c.in_ok-write_count.field-0 c.write_rows.result c.in_ok-write_count.was c.write_count.ensures.puts c.write_rows.ensures.puts }
