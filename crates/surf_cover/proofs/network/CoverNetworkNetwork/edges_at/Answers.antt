use Rattle.surf_cotree.proofs.Common.{◌/◌, ◌%◌, map, subst, slice_index, div_below, div-add-mod', mod_below, primal, cells_of, IsRow, edge_link}
use Rattle.surf_cover.proofs.Common.{cover_by, link_by}
use Rattle.surf_cover.proofs.Covering.{row_up, some_set}
use Rattle.surf_cover.proofs.network.CoverNetworkNetwork.edges_at.Goals as goal

pub returns-clause-row : goal.returns-clause-row
returns-clause-row c =
    let n = c.args.self.now in
    let mesh = n.mesh.now in
    let signs = n.signs.now in
    let can = c.requires.valid in
    let some = some_set mesh can.split n.sets signs can.signed in
    let v = c.args.node / n.sets in
    let set = c.args.node % n.sets in
    let items = c.edges_at.result.now in
    let row : IsRow (primal (cells_of mesh)) v (map (edge_link mesh v) items) =
    subst (λ u. IsRow (primal (cells_of mesh)) u (map (edge_link mesh u) items)) c.new.ensures c.edges_at.ensures.row in
    subst (λ a. IsRow (cover_by mesh n.sets (slice_index signs)) a (map (link_by mesh n.sets (slice_index signs) v set) items))
    (div-add-mod' c.args.node n.sets)
    (row_up mesh can.split n.sets signs can.signed can.surface v set items
    (div_below c.args.node n.sets mesh.vertices some c.requires.node) (mod_below c.args.node n.sets some) row)
