use Rattle.surf_cotree.proofs.Common.{◌≡◌, ◌≢◌, ◌<◌, ◌+◌, length, arith, set, Some, map, length-map, entry_of, lesser, at}
use Rattle.surf_cover.proofs.Common.{far, link_of, item_in, link_more, link_skip}
use Rattle.surf_cover.proofs.search.offer_links.Goals as goal
use Rattle.surf_cover.proofs.search.offer_links.Goals.{then-distance-w, else-distance-w}

pub bounds-distance-w : goal.bounds-distance-w
bounds-distance-w g c =
    let net = c.args.network.now in
    let inside = item_in (g.N.Network.link net c.args.node) c.edges_at-e-items.result.now c.edges_at-e-items.ensures.row
    c.loop-e-test.true c.e-item.is c.across-w.ensures.end in
    omega (arith, inside.0, c.requires.distances)

pub loop-e-preserved : goal.loop-e-preserved
loop-e-preserved g c =
    let net = c.args.network.now in
    let graph = g.N.Network.graph net in
    let len = g.N.Network.weight net in
    let link = g.N.Network.link net c.args.node in
    let dist = at c.args.distance.now in
    let w = c.across-w.result.0 in
    let heap = c.loop-e.heap in
    let items = c.edges_at-e-items.result.now in
    let links = map link items in
    let number = (link c.e-item.result).1 in
    let n = c.loop-e.e-index in
    let long = length-map items link in
    let ln : n < length links = omega arith in
    let row = c.edges_at-e-items.ensures.row in
    let some = c.loop-e.invariant in
    let is = link_of link items n c.e-item.result w c.loop-e-test.true c.e-item.is c.across-w.ensures.end in
    let w_in : w < graph.nodes = (item_in link items row c.loop-e-test.true c.e-item.is c.across-w.ensures.end).0 in
    let in_heap : w < length heap = omega (arith, some.same_length, c.requires.places) in
    elim c.if-distance-w.branch [
      | then-distance-w b ↦
          let new : b.offer.new.self ≡ set heap w (Some (lesser (entry_of heap w) (c.args.d + len number) 0)) =
          rw (b.from.ensures, c.across-w.ensures.length) at b.offer.ensures.entry in
          let free : dist w ≡ far = b.if-distance-w.true in
          rw b.heap-is (link_more graph len dist c.args.node c.args.d links row c.args.heap.now heap n some ln w number is
          b.offer.new.self free in_heap new)
      | else-distance-w b ↦
          let settled : dist w ≢ far = b.if-distance-w.false in
          rw b.heap-is (link_skip graph len dist c.args.node c.args.d links row c.args.heap.now heap n some ln w number is settled)
    ]
