use Rattle.surf_treecheck.proofs.Common.{subst, IsClosedList}
use Rattle.surf_sheetcheck.specs.Valid.{IsCycleClosed}
use Rattle.surf_certcheck.proofs.Bases.{holds_more}
use Rattle.surf_sheetcheck.proofs.walks.first_open.Goals as goal

pub loop-place-preserved : goal.loop-place-preserved
loop-place-preserved c =
    let mesh = c.args.mesh.now in
    holds_more c.loop-place.place (IsCycleClosed mesh c.args.cert.now) c.loop-place.invariant
    (subst (IsClosedList mesh) c.cycle_from.ensures.cycle c.if-not-is_closed.ensures.closed)
