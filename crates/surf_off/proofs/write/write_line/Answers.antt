use Rattle.surf_surfaces.proofs.Common.{refl, codes, err_from_is_err_and}
use Rattle.surf_text.proofs.Writing.{puts_more, puts_stop}
use Rattle.surf_off.proofs.write.write_line.Goals as goal

pub returns-in_err-push_bytes : goal.returns-in_err-push_bytes
returns-in_err-push_bytes c =
    let p = err_from_is_err_and c.from_residual.result c.from_residual.ensures.1 in
    record { puts = puts_stop c.args.page.now c.push_bytes.new.self c.args.line.now (codes "\n") c.push_bytes.result c.in_err-push_bytes.field-0.0 c.from_residual.result c.in_err-push_bytes.was (rw (p.1, p.2) refl) c.push_bytes.ensures.puts }

pub returns : goal.returns
returns c = record { puts = puts_more c.args.page.now c.push_bytes.new.self c.push_bytes-2.new.self c.args.line.now (codes "\n") c.push_bytes.result c.in_ok-push_bytes.field-0 c.push_bytes-2.result c.in_ok-push_bytes.was c.push_bytes.ensures.puts c.push_bytes-2.ensures.puts }
