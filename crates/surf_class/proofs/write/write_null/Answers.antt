use Rattle.surf_cert.proofs.Common.{◌++◌, refl, codes, length, err_from_is_err_and, puts_more, puts_stop, numbers_text}
use Rattle.surf_class.proofs.Common.{evidence_head_text}
use Rattle.surf_class.proofs.write.write_null.Goals as goal

pub returns-in_err-write_head : goal.returns-in_err-write_head
returns-in_err-write_head c =
    let xs = c.args.faces.now in
    let head = evidence_head_text c.args.word.now (length xs) in
    let rest = numbers_text c.args.faces.now ++ codes "\n" in
    let r = c.from_residual.result in
    let p = err_from_is_err_and r c.from_residual.ensures.1 in
    record { puts = puts_stop c.args.page.now c.write_head.new.page head rest c.write_head.result c.in_err-write_head.field-0.0 r c.in_err-write_head.was (rw (p.1, p.2) refl) c.write_head.ensures.puts }

pub returns-in_err-write_faces : goal.returns-in_err-write_faces
returns-in_err-write_faces c =
    let xs = c.args.faces.now in
    let head = evidence_head_text c.args.word.now (length xs) in
    let r = c.from_residual-in_err-write_faces.result in
    let p = err_from_is_err_and r c.from_residual-in_err-write_faces.ensures.1 in
    record {
      puts = puts_more c.args.page.now c.write_head.new.page c.write_faces.new.page head (numbers_text c.args.faces.now ++ codes "\n") c.write_head.result c.in_ok-write_head.field-0 r c.in_ok-write_head.was c.write_head.ensures.puts
          (puts_stop c.write_head.new.page c.write_faces.new.page (numbers_text c.args.faces.now) (codes "\n") c.write_faces.result c.in_err-write_faces.field-0.0 r c.in_err-write_faces.was (rw (p.1, p.2) refl) c.write_faces.ensures.puts);
    }

pub returns : goal.returns
returns c =
    let xs = c.args.faces.now in
    let head = evidence_head_text c.args.word.now (length xs) in
    let r = c.push_bytes.result in
    record {
      puts = puts_more c.args.page.now c.write_head.new.page c.push_bytes.new.self head (numbers_text c.args.faces.now ++ codes "\n") c.write_head.result c.in_ok-write_head.field-0 r c.in_ok-write_head.was c.write_head.ensures.puts
          (puts_more c.write_head.new.page c.write_faces.new.page c.push_bytes.new.self (numbers_text c.args.faces.now) (codes "\n") c.write_faces.result c.in_ok-write_faces.field-0 r c.in_ok-write_faces.was c.write_faces.ensures.puts c.push_bytes.ensures.puts);
    }
