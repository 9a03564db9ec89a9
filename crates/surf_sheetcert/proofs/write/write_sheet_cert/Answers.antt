use Rattle.surf_cert.proofs.Common.{length, refl, err_from_is_err_and, Puts, puts_more, puts_stop}
use Rattle.surf_sheetcert.specs.Written.{sheet_head_text, behind_text}
use Rattle.surf_sheetcert.proofs.Reread.{sheets_again}
use Rattle.surf_sheetcert.proofs.write.write_sheet_cert.Goals as goal
use Rattle.surf_sheetcert.proofs.write.write_sheet_cert.Goals.{After-write_head}

headed : (c : After-write_head) → (let cert = c.args.cert.now in Puts c.args.page.now c.write_head.new.page (sheet_head_text cert.vertices cert.faces (length cert.cycles)) c.write_head.result)
headed c = rw (← c.vertices.ensures.vertices, ← c.faces.ensures.faces, ← c.cycles.ensures.cycles) c.write_head.ensures.puts

pub returns-in_err-write_head : goal.returns-in_err-write_head
returns-in_err-write_head c =
    let cert = c.args.cert.now in
    let r = c.from_residual.result in
    let p = err_from_is_err_and r c.from_residual.ensures.1 in
    record {
      reread = sheets_again cert c.requires.fits;
      puts = puts_stop c.args.page.now c.write_head.new.page (sheet_head_text cert.vertices cert.faces (length cert.cycles)) (behind_text cert) c.write_head.result _ r c.in_err-write_head.was (rw (p.1, p.2) refl) (headed (goal.at.returns-in_err-write_head c).After-write_head);
    }

pub returns : goal.returns
returns c =
    let cert = c.args.cert.now in
    record {
      reread = sheets_again cert c.requires.fits;
      puts = puts_more c.args.page.now c.write_head.new.page c.write_behind.new.page (sheet_head_text cert.vertices cert.faces (length cert.cycles)) (behind_text cert) c.write_head.result _ c.write_behind.result c.in_ok-write_head.was (headed (goal.at.returns c).After-write_head) c.write_behind.ensures.puts;
    }
