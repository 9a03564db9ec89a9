use Rattle.surf_cert.proofs.Common.{take, Ok, Puts, numbers_text}
use Rattle.surf_cert.proofs.write.write_numbers.Given as goal

abbrev pub invariant-loop-v : goal.invariant-loop-v
invariant-loop-v l = Puts {A = Unit {0}} l.fn.page l.page (numbers_text (take l.v-index l.vertices)) (Ok tt)
