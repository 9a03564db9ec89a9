use Rattle.surf_cotree.proofs.Common.{◌≡◌, ◌<◌, ◌∙◌, ap, arith, edge_count, side_link, side_edge_is, outside}
use Rattle.surf_cotree.proofs.peeling.is_bare.Goals as goal

pub bounds-marks-index : goal.bounds-marks-index
bounds-marks-index c =
    let l : c.edge_of-edge.result < edge_count c.args.network.now.mesh.now = c.edge_of-edge.ensures.is_edge in
    omega (arith, l, c.index.ensures, c.args.network.now.fit)

pub returns : goal.returns
returns c =
    let place : c.index.result ≡ (side_link c.args.network.now.mesh.now c.args.side).1 =
    c.index.ensures ∙ side_edge_is c.args.network.now.mesh.now c.args.side c.edge_of-edge.result c.edge_of-edge.ensures in
    record { bare = ap (outside c.args.network.now.marks.now) place }
