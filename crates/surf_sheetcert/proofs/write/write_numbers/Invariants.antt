use Rattle.surf_cert.proofs.Common.{take, Ok, Puts, numbers_text}
use Rattle.surf_sheetcert.proofs.write.write_numbers.Given as goal

abbrev pub invariant-loop-number : goal.invariant-loop-number
invariant-loop-number l = Puts {A = Unit {0}} l.fn.page l.page (numbers_text (take l.number-index l.numbers)) (Ok tt)
