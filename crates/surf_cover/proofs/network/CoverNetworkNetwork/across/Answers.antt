use Rattle.surf_surfaces.proofs.Common.{◌<◌, ◌≤◌, ◌+◌, ◌*◌, ◌/◌, ◌%◌, bit_xor, sym, ap, ◌∙◌, arith, slice_index, mod_below, row_fits, edge_length}
use Rattle.surf_cover.proofs.Covering.{other_in, some_set, sum_below, link_below}
use Rattle.surf_cover.proofs.network.CoverNetworkNetwork.across.Goals as goal

pub overflow_mul-result : goal.overflow_mul-result
overflow_mul-result c =
    let n = c.args.self.now in
    let mesh = n.mesh.now in
    let can = c.requires.valid in
    let inside : c.number.result < mesh.vertices = rw (c.number.ensures, c.other_end-end.ensures.end) (other_in mesh can.surface c.args.edge c.new.result c.requires.edge) in
    let fits : c.number.result * n.sets + n.sets ≤ mesh.vertices * n.sets = row_fits c.number.result n.sets mesh.vertices n.sets inside (omega arith) in
    omega (arith, fits, can.few)

pub overflow_add-result : goal.overflow_add-result
overflow_add-result c =
    let n = c.args.self.now in
    let mesh = n.mesh.now in
    let can = c.requires.valid in
    let inside : c.number.result < mesh.vertices = rw (c.number.ensures, c.other_end-end.ensures.end) (other_in mesh can.surface c.args.edge c.new.result c.requires.edge) in
    let fits : c.number.result * n.sets + n.sets ≤ mesh.vertices * n.sets = row_fits c.number.result n.sets mesh.vertices n.sets inside (omega arith) in
    let some = some_set mesh can.split n.sets n.signs.now can.signed in
    let below : bit_xor (c.args.node % n.sets) (slice_index n.signs.now c.index.result) < n.sets =
    sum_below mesh can.split n.sets n.signs.now can.signed (c.args.node % n.sets) c.index.result (mod_below c.args.node n.sets some) in
    omega (arith, fits, below, can.few)

pub returns-clause-length : goal.returns-clause-length
returns-clause-length c =
    let n = c.args.self.now in
    let mesh = n.mesh.now in
    let can = c.requires.valid in
    let some = some_set mesh can.split n.sets n.signs.now can.signed in
    c.of.ensures.value
    ∙ ap (edge_length n.lengths.now) (sym (link_below mesh can.split n.sets n.signs.now can.signed (c.args.node / n.sets) (c.args.node % n.sets) c.args.edge (mod_below c.args.node n.sets some)))
