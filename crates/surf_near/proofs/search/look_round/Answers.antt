use Rattle.surf_near.proofs.Common.{◌≡◌, ◌≢◌, ◌<◌, ◌≤◌, ◌+◌, ◌∙◌, length, arith, set, Some, map, ap, length-map, length-set, entry_of, lesser, longest, at, never, graph_of, weight_of, ends_of, length_past}
use Rattle.surf_near.proofs.Linking.{item_link, item_in, item_with, up_to_within}
use Rattle.surf_near.proofs.Offers.{offers_skip, offers_more, offers_passed, offers_all}
use Rattle.surf_near.proofs.Choices.{choice_skip, choice_take, choice_all}
use Rattle.surf_near.proofs.search.look_round.Goals as goal
use Rattle.surf_near.proofs.search.look_round.Goals.{then-there+then-d-from+then-reached-radius, then-there+then-d-from+else-reached-radius, then-there+else-d-from}
use Rattle.surf_near.proofs.search.look_round.Goals.{else-there+then-there-from+then-there-from-2, else-there+else-there-from, else-there-from-via-then-there-from+else-there-from-2, else-there-from-via-else-there-from}

pub offer-requires-clause-to : goal.offer-requires-clause-to
offer-requires-clause-to c =
    let net = c.args.links.now in
    let around = c.around-around in
    let n = c.loop-link.link-index in
    let x = c.link-item.result in
    let size : length_past around.result.barred.now around.result.shut x ≡ weight_of net x.edge = item_with net.mesh net.lengths c.args.v around.result.links.now around.ensures.row n (omega (arith, c.loop-link-test.true)) x c.link-item.is
    (λ y. length_past around.result.barred.now around.result.shut y ≡ weight_of net y.edge) around.ensures.lengths in
    let here = ap (at c.args.distance.now) c.index.ensures in
    let most = up_to_within net.lengths c.args.radius c.args.fringe.now.step c.requires.step x.edge (omega (arith, size, c.length_past.ensures.length, c.from-then-d-from.ensures, c.if-reached-radius.true)) in
    omega (arith, size, most, here, c.length_past.ensures.length, c.from-then-d-from.ensures, c.loop-link.invariant.now, c.loop-link.invariant.step)

pub loop-link-preserved : goal.loop-link-preserved
loop-link-preserved c =
    let net = c.args.links.now in
    let graph = graph_of net in
    let len = weight_of net in
    let dist = at c.args.distance.now in
    let least = at c.args.least.now in
    let v = c.args.v in
    let items = c.around-around.result.links.now in
    let links = map ends_of items in
    let row = c.around-around.ensures.row.row in
    let n = c.loop-link.link-index in
    let heap = c.loop-link.fringe.entries in
    let old = c.loop-link.best in
    let x = c.link-item.result in
    let w = x.to in
    let e = x.edge in
    let long = length-map items ends_of in
    let li : n < length items = omega (arith, c.loop-link-test.true) in
    let ln : n < length links = omega arith in
    let is = item_link net.mesh net.lengths v items c.around-around.ensures.row n li x c.link-item.is in
    let inside = item_in net.mesh net.lengths v items c.around-around.ensures.row n li x c.link-item.is in
    let around = c.around-around in
    let past : length_past around.result.barred.now around.result.shut x ≡ len e = item_with net.mesh net.lengths v items around.ensures.row n li x c.link-item.is
    (λ y. length_past around.result.barred.now around.result.shut y ≡ weight_of net y.edge) around.ensures.lengths in
    let given : x.length ≤ len e = item_with net.mesh net.lengths v items around.ensures.row n li x c.link-item.is (λ y. y.length ≤ weight_of net y.edge) around.ensures.given in
    let inv = c.loop-link.invariant in
    let d = dist c.index.result in
    let here : d ≡ dist v = ap dist c.index.ensures in
    let there : dist c.index-in-loop-link.result ≡ dist w = ap dist c.index-in-loop-link.ensures in
    let in_heap : w < length heap = omega (arith, inside, inv.places) in
    let room : dist v + longest < never = c.requires.fits v c.requires.vertex c.requires.settled in
    elim c.if-there.branch [
      | then-there+then-d-from+then-reached-radius b ↦
          let free : dist w ≡ never = omega (arith, b.if-there.true, there) in
          let key : d + b.from-then-d-from.result ≡ d + len e = omega (arith, b.from-then-d-from.ensures, b.length_past.ensures.length, past) in
          let within : d + len e ≤ c.args.radius = omega (arith, b.if-reached-radius.true, key) in
          let new : b.offer.new.self.entries ≡ set heap w (Some (lesser (entry_of heap w) (d + len e) 0)) = rw (← key, ← c.number-to.ensures) b.offer.ensures.entry in
          rw (b.fringe-is, b.best-is, new) (record {
            now = b.offer.ensures.now ∙ inv.now;
            step = b.offer.ensures.step ∙ inv.step;
            places = length-set heap w (Some (lesser (entry_of heap w) (d + len e) 0)) ∙ inv.places;
            choice = choice_skip graph len dist least v links row n w e ln is old.parent old.up old.least inv.choice (λ t. absurd (omega (arith, t, free, room)));
            offers = offers_more graph len dist v d c.args.radius links row c.args.fringe.now.entries heap n w e ln is inv.offers free in_heap within;
          })
      | then-there+then-d-from+else-reached-radius b ↦
          let free : dist w ≡ never = omega (arith, b.if-there.true, there) in
          let far : c.args.radius < d + len e = omega (arith, b.if-reached-radius.false, b.from-then-d-from.ensures, b.length_past.ensures.length, past) in
          rw (b.fringe-is, b.best-is) (record {
            places = inv.places;
            now = inv.now;
            step = inv.step;
            choice = choice_skip graph len dist least v links row n w e ln is old.parent old.up old.least inv.choice (λ t. absurd (omega (arith, t, free, room)));
            offers = offers_passed graph len dist v d c.args.radius links row c.args.fringe.now.entries heap n w e ln is inv.offers free in_heap far;
          })
      | then-there+else-d-from b ↦
          let free : dist w ≡ never = omega (arith, b.if-there.true, there) in
          let far : c.args.radius < d + len e = omega (arith, b.if-d-from.false, b.from.ensures, given) in
          rw (b.fringe-is, b.best-is) (record {
            places = inv.places;
            now = inv.now;
            step = inv.step;
            choice = choice_skip graph len dist least v links row n w e ln is old.parent old.up old.least inv.choice (λ t. absurd (omega (arith, t, free, room)));
            offers = offers_passed graph len dist v d c.args.radius links row c.args.fringe.now.entries heap n w e ln is inv.offers free in_heap far;
          })
      | else-there+then-there-from+then-there-from-2 b ↦
          let settled : dist w ≢ never = λ t. absurd (b.if-there.false (there ∙ t)) in
          let tight : dist w + len e ≡ dist v = omega (arith, b.if-there-from-2.true, there, here, b.from-then-there-from.ensures, b.length_past-then-there-from.ensures.length, past) in
          let taken = rw (c.number-to.ensures, b.number-then-there-from-2.ensures, b.index-then-there-from-2.ensures) at b.with_tight-best.ensures in
          rw (b.fringe-is, b.best-is) (record {
            places = inv.places;
            now = inv.now;
            step = inv.step;
            choice = choice_take graph len dist least v links row n w e ln is old.parent old.up old.least inv.choice
                b.with_tight-best.result.parent b.with_tight-best.result.up b.with_tight-best.result.least tight taken.lower taken.higher taken.least;
            offers = offers_skip graph len dist v d c.args.radius links row c.args.fringe.now.entries heap n w e ln is inv.offers settled;
          })
      | else-there+else-there-from b ↦
          let settled : dist w ≢ never = λ t. absurd (b.if-there.false (there ∙ t)) in
          rw (b.fringe-is, b.best-is) (record {
            places = inv.places;
            now = inv.now;
            step = inv.step;
            choice = choice_skip graph len dist least v links row n w e ln is old.parent old.up old.least inv.choice
                (λ t. elim b.else-there-from.branch [
                  | else-there-from-via-then-there-from+else-there-from-2 y ↦
                      absurd (y.if-there-from-2.false (omega (arith, t, there, here, y.from-then-there-from.ensures, y.length_past-then-there-from.ensures.length, past)))
                  | else-there-from-via-else-there-from y ↦ absurd (omega (arith, y.if-there-from.false, t, there, here, b.from-else-there.ensures, given))
                ]);
            offers = offers_skip graph len dist v d c.args.radius links row c.args.fringe.now.entries heap n w e ln is inv.offers settled;
          })
    ]

pub returns-clause-choice : goal.returns-clause-choice
returns-clause-choice c =
    let net = c.args.links.now in
    let items = c.around-around.result.links.now in
    let long = length-map items ends_of in
    choice_all (graph_of net) (weight_of net) (at c.args.distance.now) (at c.args.least.now) c.args.v (map ends_of items) c.around-around.ensures.row.row
    c.loop-link.link-index c.loop-link.best.parent c.loop-link.best.up c.loop-link.best.least (omega arith) c.loop-link.invariant.choice

pub returns-clause-offers : goal.returns-clause-offers
returns-clause-offers c =
    let net = c.args.links.now in
    let items = c.around-around.result.links.now in
    let long = length-map items ends_of in
    let d : at c.args.distance.now c.index.result ≡ at c.args.distance.now c.args.v = ap (at c.args.distance.now) c.index.ensures in
    rw d at (offers_all (graph_of net) (weight_of net) (at c.args.distance.now) c.args.v (at c.args.distance.now c.index.result) c.args.radius (map ends_of items)
    c.around-around.ensures.row.row c.args.fringe.now.entries c.loop-link.fringe.entries c.loop-link.link-index (omega arith) c.loop-link.invariant.offers)
