use Rattle.surf_cert.proofs.Common.{take, Ok, flat_map, zip, Puts, vertex_line}
use Rattle.surf_cert.proofs.write.write_vertices.Given as goal

abbrev pub invariant-loop-v : goal.invariant-loop-v
invariant-loop-v l = Puts {A = Unit {0}} l.fn.page l.page (flat_map vertex_line (take l.v (zip l.tree.distance l.tree.parent))) (Ok tt)
