use Rattle.surf_cert.proofs.Common.{take, Ok, flat_map, Puts, cycle_line}
use Rattle.surf_cert.proofs.write.write_walks.Given as goal

abbrev pub invariant-loop-cycle : goal.invariant-loop-cycle
invariant-loop-cycle l = Puts {A = Unit {0}} l.fn.page l.page (flat_map cycle_line (take l.cycle-index l.cycles)) (Ok tt)
