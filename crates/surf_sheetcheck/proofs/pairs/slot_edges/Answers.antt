use Rattle.surf_surfaces.proofs.Common.{rules, ◌≡◌, ◌<◌, length, ap, sym, subst, ◌∙◌, arith, edge_count, edge_number}
use Rattle.surf_sheetcheck.specs.Cocycles.{pair_at}
use Rattle.surf_sheetcheck.proofs.Slots.{pair_ends, slots_more}
use Rattle.surf_sheetcheck.proofs.pairs.slot_edges.Goals as goal

pub index_mut-requires : goal.index_mut-requires
index_mut-requires c =
    let size : length c.loop-place.slots.items ≡ edge_count c.args.mesh.now = c.loop-place.invariant.count in
    let inside : c.index.result < edge_count c.args.mesh.now =
    subst (λ e. e < edge_count c.args.mesh.now) (sym c.index.ensures) c.edge_at.ensures.inside in
    let room : c.index.result < length c.loop-place.slots.items = omega (arith, size, inside) in
    search (rules, room)

pub loop-place-preserved : goal.loop-place-preserved
loop-place-preserved c =
    let mesh = c.args.mesh.now in
    let cert = c.args.cert.now in
    let j = c.loop-place.place in
    let edges = ap length c.edges-place-end.ensures.edges in
    let below : j < length cert.edges = omega (arith, c.loop-place-test.true, edges) in
    let inside : c.index.result < edge_count mesh =
    subst (λ e. e < edge_count mesh) (sym c.index.ensures) c.edge_at.ensures.inside in
    let is : c.index.result ≡ edge_number mesh (pair_at cert j) = c.index.ensures ∙ c.edge_at.ensures.edge in
    slots_more mesh cert c.requires.fits j c.index.result c.loop-place.slots.items c.loop-place.invariant below
    (omega (arith, below, c.requires.few)) inside
    (pair_ends mesh cert c.requires.fits j c.index.result (c.requires.pairs j below) below is)
