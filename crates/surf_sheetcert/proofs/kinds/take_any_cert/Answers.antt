use Rattle.surf_sheetcert.proofs.FirstLines.{trees_fit}
use Rattle.surf_sheetcert.proofs.kinds.take_any_cert.Goals as goal

pub returns-clause-fits : goal.returns-clause-fits
returns-clause-fits c = trees_fit c.in_ok-cert-2.cert c.args.text.items c.in_ok-cert-2.ensures.cert
