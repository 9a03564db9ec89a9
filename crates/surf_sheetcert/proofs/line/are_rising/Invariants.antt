use Rattle.surf_cert.proofs.Common.{◌≡◌, drop}
use Rattle.surf_sheetcert.specs.Lines.{rises}
use Rattle.surf_sheetcert.proofs.line.are_rising.Given as goal

abbrev pub invariant-loop-number : goal.invariant-loop-number
invariant-loop-number l = rises l.before l.k (drop l.number-index l.numbers) ≡ rises 0 l.k l.numbers
