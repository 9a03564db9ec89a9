use Rattle.surf_answers.proofs.Common.{refl, basis_text, GivesBasisCert, page_answered, page_stopped}
use Rattle.surf_finding.proofs.CertifyLaws.{gives_basis_cert}
use Rattle.surf_finding.proofs.certificates.basis_cert_of.Goals as goal

pub returns-in_err-write_basis_cert : goal.returns-in_err-write_basis_cert
returns-in_err-write_basis_cert c =
    page_stopped (GivesBasisCert c.args.mesh.now c.args.lengths.now) (basis_text c.in_ok-cert.cert) c.make-page.result c.make-page.ensures.empty
    (gives_basis_cert c.args.mesh.now c.args.lengths.now c.in_ok-cert.cert c.law_of_surface.ensures.surface c.law_of_lengths.ensures.lengths c.requires.lengths c.in_ok-cert.ensures.chosen c.in_ok-cert.ensures.valid)
    c.in_err-write_basis_cert.field-0.0 c.in_err-write_basis_cert.ensures.puts.1 c.from_residual-in_err-write_basis_cert.result c.from_residual-in_err-write_basis_cert.ensures.1

pub returns : goal.returns
returns c =
    page_answered (GivesBasisCert c.args.mesh.now c.args.lengths.now) (basis_text c.in_ok-cert.cert) c.make-page.result c.make-page.ensures.empty
    (gives_basis_cert c.args.mesh.now c.args.lengths.now c.in_ok-cert.cert c.law_of_surface.ensures.surface c.law_of_lengths.ensures.lengths c.requires.lengths c.in_ok-cert.ensures.chosen c.in_ok-cert.ensures.valid)
    c.write_basis_cert.new.page c.in_ok-write_basis_cert.ensures.puts.0 c.yes.result _ c.yes.ensures refl c.into_bytes.ensures.bytes c.into_bytes.ensures.within
