use Rattle.surf_answers.proofs.Common.{refl, loop_text, GivesLoopCert, page_answered, page_stopped}
use Rattle.surf_finding.proofs.CertifyLaws.{gives_loop_cert}
use Rattle.surf_finding.proofs.certificates.loop_cert_of.Goals as goal

pub returns-in_err-write_loop_cert : goal.returns-in_err-write_loop_cert
returns-in_err-write_loop_cert c =
    page_stopped (GivesLoopCert c.args.mesh.now c.args.lengths.now c.args.base) (loop_text c.in_ok-cert.cert) c.make-page.result c.make-page.ensures.empty
    (gives_loop_cert c.args.mesh.now c.args.lengths.now c.args.base c.in_ok-cert.cert c.in_ok-cert.ensures.cert)
    c.in_err-write_loop_cert.field-0.0 c.in_err-write_loop_cert.ensures.puts.1 c.from_residual-in_err-write_loop_cert.result c.from_residual-in_err-write_loop_cert.ensures.1

pub returns : goal.returns
returns c =
    page_answered (GivesLoopCert c.args.mesh.now c.args.lengths.now c.args.base) (loop_text c.in_ok-cert.cert) c.make-page.result c.make-page.ensures.empty
    (gives_loop_cert c.args.mesh.now c.args.lengths.now c.args.base c.in_ok-cert.cert c.in_ok-cert.ensures.cert)
    c.write_loop_cert.new.page c.in_ok-write_loop_cert.ensures.puts.0 c.yes.result _ c.yes.ensures refl c.into_bytes.ensures.bytes c.into_bytes.ensures.within
