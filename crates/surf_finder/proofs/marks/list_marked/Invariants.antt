use Rattle.surf_finder.specs.Marks.{AreMarkedIn}
use Rattle.surf_finder.proofs.marks.list_marked.Given as goal

abbrev pub invariant-loop-v : goal.invariant-loop-v
invariant-loop-v l = AreMarkedIn l.marked l.v l.list.items
