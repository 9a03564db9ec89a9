use Rattle.surf_treecheck.specs.First.{HoldsBelow}
use Rattle.surf_sheetcheck.specs.Cocycles.{IsPairEdge}
use Rattle.surf_sheetcheck.proofs.pairs.first_stranger.Given as goal

-- the pairs before are edges
abbrev pub invariant-loop-place : goal.invariant-loop-place
invariant-loop-place l = HoldsBelow l.place (IsPairEdge l.mesh l.cert)
