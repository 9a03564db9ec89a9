use Rattle.surf_certcheck.proofs.Bases.{holds_more}
use Rattle.surf_sheetcheck.specs.Valid.{IsPaired}
use Rattle.surf_sheetcheck.proofs.pairing.first_unpaired.Goals as goal

pub loop-place-preserved : goal.loop-place-preserved
loop-place-preserved c =
    holds_more c.loop-place.place (IsPaired c.args.case.now.mesh.now c.args.case.now.cert.now) c.loop-place.invariant
    c.if-not-is_paired.ensures.paired
