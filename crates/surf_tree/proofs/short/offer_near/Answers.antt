use Rattle.surf_surfaces.proofs.Common.{◌≡◌, ◌<◌, ◌+◌, ◌∙◌, length, arith, inl, inr, set, Some, map, cases_eq, length-map}
use Rattle.surf_heap.specs.Entries.{entry_of, lesser}
use Rattle.surf_buckets.specs.Lent.{waiting_key, waiting, settled}
use Rattle.surf_buckets.proofs.Views.{entries_length}
use Rattle.surf_base.specs.Tables.{at}
use Rattle.surf_tree.specs.Searches.{far}
use Rattle.surf_tree.proofs.Offering.{link_of, item_in, link_more, link_skip}
use Rattle.surf_tree.proofs.short.offer_near.Goals as goal

pub offer-requires-clause-place : goal.offer-requires-clause-place
offer-requires-clause-place g c =
    let net = c.args.network.now in
    let inside = item_in (g.N.Network.link net c.args.node) c.edges_at-e-items.result.now c.edges_at-e-items.ensures.row c.loop-e-test.true c.e-item.is c.across-w.ensures.end in
    omega (arith, inside.0, c.loop-e.invariant.room, c.requires.distances)

pub offer-requires-clause-window : goal.offer-requires-clause-window
offer-requires-clause-window g c =
    let net = c.args.network.now in
    let number = (g.N.Network.link net c.args.node c.e-item.result).1 in
    let size : c.from.result ≡ g.N.Network.weight net number = c.from.ensures ∙ c.across-w.ensures.length in
    let inside = item_in (g.N.Network.link net c.args.node) c.edges_at-e-items.result.now c.edges_at-e-items.ensures.row c.loop-e-test.true c.e-item.is c.across-w.ensures.end in
    omega (arith, size, c.requires.short number inside.1, c.loop-e.invariant.now, c.requires.now)

pub offer-requires-clause-key : goal.offer-requires-clause-key
offer-requires-clause-key g c =
    let net = c.args.network.now in
    let number = (g.N.Network.link net c.args.node c.e-item.result).1 in
    let size : c.from.result ≡ g.N.Network.weight net number = c.from.ensures ∙ c.across-w.ensures.length in
    let inside = item_in (g.N.Network.link net c.args.node) c.edges_at-e-items.result.now c.edges_at-e-items.ensures.row c.loop-e-test.true c.e-item.is c.across-w.ensures.end in
    omega (arith, size, c.requires.short number inside.1, c.requires.fits)

pub offer-requires-clause-settled : goal.offer-requires-clause-settled
offer-requires-clause-settled g c =
    let net = c.args.network.now in
    let inside = item_in (g.N.Network.link net c.args.node) c.edges_at-e-items.result.now c.edges_at-e-items.ensures.row c.loop-e-test.true c.e-item.is c.across-w.ensures.end in
    rw c.loop-e.invariant.settles (λ some. let up = c.requires.settled c.across-w.result.0 inside.0 some in omega (arith, up))

pub loop-e-preserved : goal.loop-e-preserved
loop-e-preserved g c =
    let net = c.args.network.now in
    let graph = g.N.Network.graph net in
    let len = g.N.Network.weight net in
    let link = g.N.Network.link net c.args.node in
    let dist = at (settled c.args.buckets.now c.args.distance.now) in
    let old = waiting c.args.buckets.now c.args.distance.now in
    let mid = waiting c.loop-e.buckets c.loop-e.distance in
    let new = waiting c.offer.new.self c.offer.new.keys in
    let w = c.across-w.result.0 in
    let items = c.edges_at-e-items.result.now in
    let links = map link items in
    let number = (link c.e-item.result).1 in
    let n = c.loop-e.e-index in
    let long = length-map items link in
    let ln : n < length links = omega arith in
    let row = c.edges_at-e-items.ensures.row in
    let inv = c.loop-e.invariant in
    let is = link_of link items n c.e-item.result w c.loop-e-test.true c.e-item.is c.across-w.ensures.end in
    let inside = item_in link items row c.loop-e-test.true c.e-item.is c.across-w.ensures.end in
    let count = entries_length c.loop-e.buckets.places (waiting_key c.loop-e.buckets.links c.loop-e.distance) in
    let in_heap : w < length mid = omega (arith, inside.0, inv.filing.room, inv.room, c.requires.distances, count) in
    let size : c.from.result ≡ len number = c.from.ensures ∙ c.across-w.ensures.length in
    record {
      filing = c.offer.ensures.filing;
      room = omega (arith, inv.room);
      places = c.offer.ensures.places ∙ inv.places;
      now = c.offer.ensures.now ∙ inv.now;
      settles = c.offer.ensures.settled ∙ inv.settles;
      offered = elim (cases_eq (dist w) far) [
        | inl free ↦
            let made : new ≡ set mid w (Some (lesser (entry_of mid w) (c.args.d + len number) 0)) = rw size at (c.offer.ensures.waiting (rw inv.settles free)) in
            link_more graph len dist c.args.node c.args.d links row old mid n inv.offered ln w number is new free in_heap made
        | inr busy ↦
            let same : new ≡ mid = c.offer.ensures.stays (rw inv.settles busy) in
            rw same (link_skip graph len dist c.args.node c.args.d links row old mid n inv.offered ln w number is busy)
      ];
    }
