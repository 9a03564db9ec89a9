use Rattle.std.proofs.Common.{length}
use Rattle.surf_sheetcheck.proofs.Listing.{AreSeedsUpTo}
use Rattle.surf_sheetcheck.proofs.search.offer_part.Given as goal

-- the vertices before
abbrev pub invariant-loop-i : goal.invariant-loop-i
invariant-loop-i l = AreSeedsUpTo l.part (length l.initial.heap) l.i l.heap
