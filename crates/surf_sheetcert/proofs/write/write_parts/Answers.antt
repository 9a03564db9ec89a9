use Rattle.surf_cert.proofs.Common.{◌++◌, refl, zip, err_from_is_err_and, puts_more, puts_stop, cycles_text}
use Rattle.surf_sheetcert.specs.Written.{cocycles_text, sheets_text}
use Rattle.surf_sheetcert.proofs.write.write_parts.Goals as goal

pub returns-in_err-write_cycles : goal.returns-in_err-write_cycles
returns-in_err-write_cycles c =
    let cert = c.args.cert.now in
    let r = c.from_residual.result in
    let p = err_from_is_err_and r c.from_residual.ensures.1 in
    record { puts = puts_stop c.args.page.now c.write_cycles.new.page (cycles_text cert.cycles) (cocycles_text (zip cert.edges cert.numbers) ++ sheets_text cert.sheets) c.write_cycles.result c.in_err-write_cycles.field-0.0 r c.in_err-write_cycles.was (rw (p.1, p.2) refl) (rw (← c.cycles.ensures.cycles) c.write_cycles.ensures.puts) }

pub returns-in_err-write_cocycles : goal.returns-in_err-write_cocycles
returns-in_err-write_cocycles c =
    let cert = c.args.cert.now in
    let r = c.from_residual-in_err-write_cocycles.result in
    let p = err_from_is_err_and r c.from_residual-in_err-write_cocycles.ensures.1 in
    record {
      puts = puts_more c.args.page.now c.write_cycles.new.page c.write_cocycles.new.page (cycles_text cert.cycles) (cocycles_text (zip cert.edges cert.numbers) ++ sheets_text cert.sheets) c.write_cycles.result _ r c.in_ok-write_cycles.was (rw (← c.cycles.ensures.cycles) c.write_cycles.ensures.puts)
          (puts_stop c.write_cycles.new.page c.write_cocycles.new.page (cocycles_text (zip cert.edges cert.numbers)) (sheets_text cert.sheets) c.write_cocycles.result c.in_err-write_cocycles.field-0.0 r c.in_err-write_cocycles.was (rw (p.1, p.2) refl) c.write_cocycles.ensures.puts);
    }

pub returns : goal.returns
returns c =
    let cert = c.args.cert.now in
    let r = c.write_sheets.result in
    record {
      puts = puts_more c.args.page.now c.write_cycles.new.page c.write_sheets.new.page (cycles_text cert.cycles) (cocycles_text (zip cert.edges cert.numbers) ++ sheets_text cert.sheets) c.write_cycles.result _ r c.in_ok-write_cycles.was (rw (← c.cycles.ensures.cycles) c.write_cycles.ensures.puts)
          (puts_more c.write_cycles.new.page c.write_cocycles.new.page c.write_sheets.new.page (cocycles_text (zip cert.edges cert.numbers)) (sheets_text cert.sheets) c.write_cocycles.result _ r c.in_ok-write_cocycles.was c.write_cocycles.ensures.puts
          (rw (← c.sheets.ensures.sheets) c.write_sheets.ensures.puts));
    }
