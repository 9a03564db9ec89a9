use Rattle.std.proofs.Common.{◌≡◌, take}
use Rattle.surf_sheetcheck.specs.Cocycles.{set_of}
use Rattle.surf_sheetcheck.proofs.sets.set_from.Given as goal

-- the numbers before
abbrev pub invariant-loop-i : goal.invariant-loop-i
invariant-loop-i l = l.set ≡ set_of (take l.i l.row)
