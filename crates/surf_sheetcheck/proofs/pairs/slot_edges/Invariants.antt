use Rattle.surf_sheetcheck.specs.Tables.{AreSlots}
use Rattle.surf_sheetcheck.proofs.pairs.slot_edges.Given as goal

-- the places of the pairs before
abbrev pub invariant-loop-place : goal.invariant-loop-place
invariant-loop-place l = AreSlots l.mesh l.cert l.place l.slots.items
