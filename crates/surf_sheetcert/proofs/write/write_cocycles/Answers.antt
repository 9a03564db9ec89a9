use Rattle.surf_cert.proofs.Common.{◌≡◌, ℕ, List, ◌++◌, length, refl, ap, subst, arith, flat_map, codes, decimal, zip, length-zip, err_from_is_err_and, Puts, puts_more, puts_stop}
use Rattle.surf_sheets.specs.Rows.{SheetCert}
use Rattle.surf_sheetcert.specs.Written.{cocycles_line}
use Rattle.surf_sheetcert.proofs.write.write_cocycles.Goals as goal
use Rattle.surf_sheetcert.proofs.write.write_cocycles.Goals.{After-write_count}

abbrev head_text : ℕ → List ℕ
head_text count = codes "cocycles " ++ (decimal count ++ codes "\n")

abbrev rows_text : SheetCert → List ℕ
rows_text cert = flat_map cocycles_line (zip cert.edges cert.numbers)

counted : (c : After-write_count) → Puts c.args.page.now c.write_count.new.page (head_text (length (zip c.args.cert.now.edges c.args.cert.now.numbers))) c.write_count.result
counted c =
    let cert = c.args.cert.now in
    let same = c.edges.ensures.rows in
    let count : length c.edges.result.now ≡ length (zip cert.edges cert.numbers) = omega (arith, ap length c.edges.ensures.edges, length-zip cert.edges cert.numbers, same) in
    subst (λ (n : ℕ). Puts c.args.page.now c.write_count.new.page (head_text n) c.write_count.result) count c.write_count.ensures.puts

pub returns-in_err-write_count : goal.returns-in_err-write_count
returns-in_err-write_count c =
    let r = c.from_residual.result in
    let p = err_from_is_err_and r c.from_residual.ensures.1 in
    record { puts = puts_stop c.args.page.now c.write_count.new.page (head_text (length (zip c.args.cert.now.edges c.args.cert.now.numbers))) (rows_text c.args.cert.now) c.write_count.result c.in_err-write_count.field-0.0 r c.in_err-write_count.was (rw (p.1, p.2) refl) (counted (goal.at.returns-in_err-write_count c).After-write_count) }

pub returns : goal.returns
returns c =
    let r = c.write_edges.result in
    record { puts = puts_more c.args.page.now c.write_count.new.page c.write_edges.new.page (head_text (length (zip c.args.cert.now.edges c.args.cert.now.numbers))) (rows_text c.args.cert.now) c.write_count.result c.in_ok-write_count.field-0 r c.in_ok-write_count.was (counted (goal.at.returns c).After-write_count) c.write_edges.ensures.puts }
