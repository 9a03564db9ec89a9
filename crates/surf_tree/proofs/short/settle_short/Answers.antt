use Rattle.surf_surfaces.proofs.Common.{ℕ, ◌≡◌, ◌<◌, ◌∙◌, length, arith, ap, subst, get_or-replicate}
use Rattle.surf_buckets.specs.Lent.{waiting, settled}
use Rattle.surf_buckets.proofs.LentViews.{settled_length}
use Rattle.surf_base.specs.Tables.{at}
use Rattle.surf_tree.specs.Searches.{far, IsSettled}
use Rattle.surf_tree.proofs.Settling.{search_begins, search_ends}
use Rattle.surf_tree.proofs.Offering.{all_free, first_offer, nearest_turn}
use Rattle.surf_tree.proofs.short.settle_short.Goals as goal

pub offer-requires-clause-settled : goal.offer-requires-clause-settled
offer-requires-clause-settled g c =
    let none : at (settled c.start.new.self c.start.new.keys) c.args.base ≡ far =
    ap (λ l. at l c.args.base) c.start.ensures.settled ∙ get_or-replicate (length c.args.distance.now) c.args.base far 0 (omega (arith, c.requires.base, c.requires.distances)) in
    λ some. absurd (some none)

pub loop-node-init : goal.loop-node-init
loop-node-init g c =
    let net = c.args.network.now in
    let graph = g.N.Network.graph net in
    let can = c.requires.searchable in
    let dist = settled c.offer.new.self c.offer.new.keys in
    let none : at (settled c.start.new.self c.start.new.keys) c.args.base ≡ far =
    ap (λ l. at l c.args.base) c.start.ensures.settled ∙ get_or-replicate (length c.args.distance.now) c.args.base far 0 (omega (arith, c.requires.base, c.requires.distances)) in
    let free : (u : ℕ) → u < graph.nodes → at dist u ≡ far = λ u l.
    ap (λ x. at x u) (c.offer.ensures.settled ∙ c.start.ensures.settled) ∙ get_or-replicate (length c.args.distance.now) u far 0 (omega (arith, l, c.requires.distances)) in
    let first = first_offer graph.nodes c.args.base (waiting c.start.new.self c.start.new.keys) (waiting c.offer.new.self c.offer.new.keys) c.requires.base
    (rw (← c.requires.distances) c.start.ensures.waiting) (c.offer.ensures.waiting none) in
    record {
      places = c.offer.ensures.places ∙ c.start.ensures.places ∙ c.requires.places;
      room = omega (arith, c.requires.distances);
      filing = c.offer.ensures.filing;
      last = 0;
      search = search_begins graph (g.N.Network.weight net) c.args.base can.few can.short (at dist) (waiting c.offer.new.self c.offer.new.keys) _ c.requires.base (all_free graph.nodes dist free) free first.0 first.1;
    }

pub offer_near-requires-clause-node : goal.offer_near-requires-clause-node
offer_near-requires-clause-node g c =
    let inv = c.loop-node.invariant in
    let turn = nearest_turn c.requires.searchable.few c.requires.searchable.short (settled c.loop-node.buckets c.loop-node.distance) (settled_length c.loop-node.buckets c.loop-node.distance ∙ inv.places)
    inv.search (c.in-Some.ensures.taken c.loop-node.distance inv.filing).0 in
    turn.inside.0

pub offer_near-requires-clause-fits : goal.offer_near-requires-clause-fits
offer_near-requires-clause-fits g c =
    let inv = c.loop-node.invariant in
    let turn = nearest_turn c.requires.searchable.few c.requires.searchable.short (settled c.loop-node.buckets c.loop-node.distance) (settled_length c.loop-node.buckets c.loop-node.distance ∙ inv.places)
    inv.search (c.in-Some.ensures.taken c.loop-node.distance inv.filing).0 in
    omega (arith, turn.inside.1, c.requires.searchable.few)

pub offer_near-requires-clause-settled : goal.offer_near-requires-clause-settled
offer_near-requires-clause-settled g c =
    let inv = c.loop-node.invariant in
    let turn = nearest_turn c.requires.searchable.few c.requires.searchable.short (settled c.loop-node.buckets c.loop-node.distance) (settled_length c.loop-node.buckets c.loop-node.distance ∙ inv.places)
    inv.search (c.in-Some.ensures.taken c.loop-node.distance inv.filing).0 in
    rw (c.in-Some.ensures.settled c.loop-node.distance inv.filing) turn.last

pub loop-node-smaller : goal.loop-node-smaller
loop-node-smaller g c =
    let inv = c.loop-node.invariant in
    let turn = nearest_turn c.requires.searchable.few c.requires.searchable.short (settled c.loop-node.buckets c.loop-node.distance) (settled_length c.loop-node.buckets c.loop-node.distance ∙ inv.places)
    inv.search (c.in-Some.ensures.taken c.loop-node.distance inv.filing).0 in
    rw (c.offer_near.ensures.settled ∙ c.in-Some.ensures.settled c.loop-node.distance inv.filing) turn.smaller

pub loop-node-preserved : goal.loop-node-preserved
loop-node-preserved g c =
    let inv = c.loop-node.invariant in
    let turn = nearest_turn c.requires.searchable.few c.requires.searchable.short (settled c.loop-node.buckets c.loop-node.distance) (settled_length c.loop-node.buckets c.loop-node.distance ∙ inv.places)
    inv.search (c.in-Some.ensures.taken c.loop-node.distance inv.filing).0 in
    let settles = c.in-Some.ensures.settled c.loop-node.distance inv.filing in
    let done = rw settles at c.offer_near.ensures.offered in
    record {
      places = c.offer_near.ensures.places ∙ c.take_least.ensures.places ∙ inv.places;
      room = omega (arith, inv.room);
      filing = c.offer_near.ensures.filing;
      last = c.in-Some.d;
      search = rw (c.offer_near.ensures.settled ∙ settles) (turn.keeps (waiting c.take_least.new.self c.loop-node.distance) (waiting c.offer_near.new.buckets c.offer_near.new.distance)
          (c.in-Some.ensures.taken c.loop-node.distance inv.filing).1 done);
    }

pub returns-clause-settled : goal.returns-clause-settled
returns-clause-settled g c =
    let net = c.args.network.now in
    let can = c.requires.searchable in
    let inv = c.loop-node.invariant in
    let dist = settled c.loop-node.buckets c.loop-node.distance in
    let ends = search_ends (g.N.Network.graph net) (g.N.Network.weight net) c.args.base can.few can.short (at dist) (waiting c.loop-node.buckets c.loop-node.distance) inv.last _ inv.search can.is_graph can.connected c.requires.base
    (c.in_default.ensures.taken c.loop-node.distance inv.filing).0 in
    let all : dist ≡ c.loop-node.distance = (c.in_default.ensures.settled c.loop-node.distance inv.filing).0 in
    subst (λ d. IsSettled (g.N.Network.graph net) (g.N.Network.weight net) c.args.base (at d)) all ends
