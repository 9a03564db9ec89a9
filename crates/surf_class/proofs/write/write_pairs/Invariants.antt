use Rattle.surf_cert.proofs.Common.{take, Ok, Puts, numbers_text}
use Rattle.surf_class.proofs.Common.{both_ends}
use Rattle.surf_class.proofs.write.write_pairs.Given as goal

abbrev pub invariant-loop-pair : goal.invariant-loop-pair
invariant-loop-pair l = Puts {A = Unit {0}} l.fn.page l.page (numbers_text (both_ends (take l.pair-index l.pairs))) (Ok tt)
