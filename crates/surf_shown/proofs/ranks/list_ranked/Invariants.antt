use Rattle.surf_surfaces.proofs.Common.{take}
use Rattle.surf_shown.specs.Shown.{AreRanks}
use Rattle.surf_shown.proofs.ranks.list_ranked.Given as goal

abbrev pub invariant-loop-k : goal.invariant-loop-k
invariant-loop-k l = AreRanks (take l.k l.loops) l.list.items
