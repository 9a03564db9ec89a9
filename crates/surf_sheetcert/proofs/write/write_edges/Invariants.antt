use Rattle.surf_cert.proofs.Common.{take, zip, Ok, flat_map, Puts}
use Rattle.surf_sheetcert.specs.Written.{cocycles_line}
use Rattle.surf_sheetcert.proofs.write.write_edges.Given as goal

abbrev pub invariant-loop-j : goal.invariant-loop-j
invariant-loop-j l = Puts {A = Unit {0}} l.fn.page l.page (flat_map cocycles_line (take l.j (zip l.cert.edges l.cert.numbers))) (Ok tt)
