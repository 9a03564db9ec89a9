use Rattle.surf_finder.proofs.Common.{◌≡◌, AreWrittenTo}
use Rattle.surf_finder.proofs.finder.Finder.write_walks.Given as goal

abbrev pub invariant-loop-k : goal.invariant-loop-k
invariant-loop-k l = record {
  same : l.self ≡ l.fn.self;
  written : AreWrittenTo l.fn.self.mesh l.fn.self.lengths l.kept l.k l.walks;
}
