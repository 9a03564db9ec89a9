use Rattle.surf_surfaces.proofs.Common.{subst}
use Rattle.surf_certcheck.proofs.Bases.{holds_more}
use Rattle.surf_sheetcheck.specs.Valid.{IsEvenFace}
use Rattle.surf_sheetcheck.proofs.cocycles.first_odd_face.Goals as goal

pub loop-f-preserved : goal.loop-f-preserved
loop-f-preserved c =
    let P = IsEvenFace c.args.case.now.mesh.now c.args.case.now.cert.now in
    holds_more c.loop-f.f P c.loop-f.invariant (subst P c.new-face.ensures c.if-not-is_even.ensures.even)
