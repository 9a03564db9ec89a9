use Rattle.surf_sheetcheck.specs.Used.{IsStillUsed}
use Rattle.surf_sheetcheck.proofs.desk.put_back.Given as goal

-- the vertices before are put back
abbrev pub invariant-loop-i : goal.invariant-loop-i
invariant-loop-i l = IsStillUsed l.mesh l.distance l.labels l.order.items l.i
