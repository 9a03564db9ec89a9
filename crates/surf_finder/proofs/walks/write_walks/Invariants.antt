use Rattle.surf_finder.specs.Walks.{AreWritten}
use Rattle.surf_finder.proofs.walks.write_walks.Given as goal

abbrev pub invariant-loop-k : goal.invariant-loop-k
invariant-loop-k l = AreWritten l.mesh l.links.lengths l.kept l.desk.base l.k l.fn.walks l.walks
