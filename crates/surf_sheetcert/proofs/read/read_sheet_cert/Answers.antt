use Rattle.surf_sheetcert.proofs.ReadParts.{given_fits}
use Rattle.surf_sheetcert.proofs.read.read_sheet_cert.Goals as goal

pub returns : goal.returns
returns c = record { cert = c.read_text.ensures.cert; fits = given_fits c.read_text.result c.args.text.now c.read_text.ensures.cert }
