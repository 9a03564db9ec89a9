use Rattle.surf_surfaces.proofs.Common.{◌≡◌, ◌≢◌, ◌<◌, ◌∙◌, length, arith, map, length-map}
use Rattle.surf_base.specs.Tables.{at}
use Rattle.surf_tree.specs.Searches.{far}
use Rattle.surf_tree.proofs.Offering.{link_of, item_in}
use Rattle.surf_tree.proofs.Queues.{queue_room, first_kept, passing_settled, passing_lists, passing_ends}
use Rattle.surf_tree.proofs.even.pass_on.Goals as goal
use Rattle.surf_tree.proofs.even.pass_on.Goals.{then-distance-w, else-distance-w}

pub bounds-distance-w : goal.bounds-distance-w
bounds-distance-w g c =
    let net = c.args.network.now in
    let inside = item_in (g.N.Network.link net (at c.args.order.now c.args.place)) c.edges_at-e-items.result.now c.edges_at-e-items.ensures.row c.loop-e-test.true c.e-item.is c.across-w.ensures.end in
    omega (arith, inside.0, c.loop-e.invariant.passing.queue.dist_room)

pub bounds-order-count : goal.bounds-order-count
bounds-order-count g c =
    let net = c.args.network.now in
    let q = c.loop-e.invariant.passing.queue in
    let inside = item_in (g.N.Network.link net (at c.args.order.now c.args.place)) c.edges_at-e-items.result.now c.edges_at-e-items.ensures.row c.loop-e-test.true c.e-item.is c.across-w.ensures.end in
    let room = queue_room (g.N.Network.graph net) (g.N.Network.weight net) c.args.size c.requires.few c.requires.even (omega arith) c.loop-e.distance c.loop-e.order c.loop-e.count c.args.place q c.across-w.result.0 inside.0 c.if-distance-w.true in
    omega (arith, room, q.order_room)

pub loop-e-preserved : goal.loop-e-preserved
loop-e-preserved g c =
    let net = c.args.network.now in
    let graph = g.N.Network.graph net in
    let len = g.N.Network.weight net in
    let v = at c.args.order.now c.args.place in
    let d = at c.args.distance.now v in
    let size = c.args.size in
    let place = c.args.place in
    let link = g.N.Network.link net v in
    let items = c.edges_at-e-items.result.now in
    let links = map link items in
    let w = c.across-w.result.0 in
    let number = (link c.e-item.result).1 in
    let n = c.loop-e.e-index in
    let long = length-map items link in
    let ln : n < length links = omega (arith, long, c.loop-e-test.true) in
    let row = c.edges_at-e-items.ensures.row in
    let some = c.loop-e.invariant in
    let is = link_of link items n c.e-item.result w c.loop-e-test.true c.e-item.is c.across-w.ensures.end in
    elim c.if-distance-w.branch [
      | then-distance-w b ↦
          let free : at c.loop-e.distance w ≡ far = b.if-distance-w.true in
          rw (b.distance-is, b.order-is, b.count-is, c.from.ensures) (record {
            passing = passing_lists graph len size c.requires.few c.requires.even (omega arith) c.loop-e.distance c.loop-e.order c.loop-e.count place v d links row n some.passing w number ln is free;
            first = first_kept c.loop-e.order c.loop-e.count w some.passing.queue.some ∙ some.first;
          })
      | else-distance-w b ↦
          let settled : at c.loop-e.distance w ≢ far = b.if-distance-w.false in
          rw (b.distance-is, b.order-is, b.count-is) (record {
            passing = passing_settled graph len size c.requires.few c.requires.even (omega arith) c.loop-e.distance c.loop-e.order c.loop-e.count place v d links row n some.passing w number ln is settled;
            first = some.first;
          })
    ]

pub returns-clause-queue : goal.returns-clause-queue
returns-clause-queue g c =
    let net = c.args.network.now in
    let v = at c.args.order.now c.args.place in
    let link = g.N.Network.link net v in
    let items = c.edges_at-e-items.result.now in
    let long = length-map items link in
    passing_ends (g.N.Network.graph net) (g.N.Network.weight net) c.args.size c.requires.few c.requires.even (omega arith) c.loop-e.distance c.loop-e.order c.loop-e.count c.args.place v (at c.args.distance.now v) (map link items) c.edges_at-e-items.ensures.row c.loop-e.e-index (omega (arith, long, c.loop-e-test.false)) c.loop-e.invariant.passing
