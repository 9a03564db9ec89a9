use Rattle.surf_decided.proofs.Certificates.{basis_or_fault, loops_or_fault}
use Rattle.surf_decided.proofs.Sheets.{sheets_or_fault}
use Rattle.surf_decided.proofs.law_of_certificates.Goals as goal

pub returns : goal.returns
returns c = record { loops = loops_or_fault; bases = basis_or_fault; sheets = sheets_or_fault }
