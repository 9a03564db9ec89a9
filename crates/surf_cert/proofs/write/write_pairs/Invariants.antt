use Rattle.surf_cert.proofs.Common.{take, Ok, flat_map, Puts, pair_line}
use Rattle.surf_cert.proofs.write.write_pairs.Given as goal

abbrev pub invariant-loop-u : goal.invariant-loop-u
invariant-loop-u l = Puts {A = Unit {0}} l.fn.page l.page (flat_map pair_line (take l.u-index l.pairs)) (Ok tt)
