use Rattle.surf_certcheck.proofs.Bases.{holds_more}
use Rattle.surf_sheetcheck.specs.Cocycles.{IsPairEdge}
use Rattle.surf_sheetcheck.proofs.pairs.first_stranger.Goals as goal

pub loop-place-preserved : goal.loop-place-preserved
loop-place-preserved c =
    holds_more c.loop-place.place (IsPairEdge c.args.mesh.now c.args.cert.now) c.loop-place.invariant
    c.if-not-is_edge.ensures.edge
