use Rattle.std.proofs.Common.{◌≡◌, ◌<◌, ◌∙◌, ℕ, length, arith, ap, refl, None}
use Rattle.std.proofs.Math.ListN.{length-set}
use Rattle.surf_base.specs.Tables.{at}
use Rattle.surf_tree.specs.Searches.{far}
use Rattle.surf_tree.proofs.Settling.{search_begins, search_ends}
use Rattle.surf_tree.proofs.Offering.{all_free, first_offer, least_turn}
use Rattle.surf_tree.proofs.search.settle.Goals as goal

pub loop-node-init : goal.loop-node-init
loop-node-init g c =
    let net = c.args.network.now in
    let graph = g.N.Network.graph net in
    let can = c.requires.searchable in
    let free : (u : ℕ) → u < graph.nodes → at c.fill.new.self u ≡ far = λ u l. c.fill.ensures.clones u 0 (omega (arith, c.requires.distances)) refl in
    let first = first_offer graph.nodes c.args.base c.clear.new.self c.offer.new.self c.requires.base (rw (← c.requires.places) c.clear.ensures.empty) c.offer.ensures.entry in
    record {
      places = first.2;
      last = 0;
      search = search_begins graph (g.N.Network.weight net) c.args.base can.few can.short (at c.fill.new.self) c.offer.new.self _ c.requires.base (all_free graph.nodes c.fill.new.self free) free first.0 first.1;
    }

pub bounds-distance-node : goal.bounds-distance-node
bounds-distance-node g c =
    let turn = least_turn c.requires.searchable.few c.requires.searchable.short c.loop-node.distance (omega (arith, c.requires.distances)) c.loop-node.invariant.search c.in-Some.ensures.taken.0 in
    omega (arith, turn.inside.0, c.requires.distances)

pub offer_neighbours-requires-clause-node : goal.offer_neighbours-requires-clause-node
offer_neighbours-requires-clause-node g c =
    let turn = least_turn c.requires.searchable.few c.requires.searchable.short c.loop-node.distance (omega (arith, c.requires.distances)) c.loop-node.invariant.search c.in-Some.ensures.taken.0 in
    turn.inside.0

pub offer_neighbours-requires-clause-places : goal.offer_neighbours-requires-clause-places
offer_neighbours-requires-clause-places g c = ap length c.in-Some.ensures.taken.1 ∙ (length-set c.loop-node.heap c.in-Some.node None ∙ c.loop-node.invariant.places)

pub offer_neighbours-requires-clause-fits : goal.offer_neighbours-requires-clause-fits
offer_neighbours-requires-clause-fits g c =
    let turn = least_turn c.requires.searchable.few c.requires.searchable.short c.loop-node.distance (omega (arith, c.requires.distances)) c.loop-node.invariant.search c.in-Some.ensures.taken.0 in
    omega (arith, turn.inside.1, c.requires.searchable.few)

pub loop-node-smaller : goal.loop-node-smaller
loop-node-smaller g c =
    let turn = least_turn c.requires.searchable.few c.requires.searchable.short c.loop-node.distance (omega (arith, c.requires.distances)) c.loop-node.invariant.search c.in-Some.ensures.taken.0 in
    turn.smaller

pub loop-node-preserved : goal.loop-node-preserved
loop-node-preserved g c =
    let turn = least_turn c.requires.searchable.few c.requires.searchable.short c.loop-node.distance (omega (arith, c.requires.distances)) c.loop-node.invariant.search c.in-Some.ensures.taken.0 in
    let done = c.offer_neighbours.ensures.offered in
    record {
      places = done.same_length ∙ (ap length c.in-Some.ensures.taken.1 ∙ (length-set c.loop-node.heap c.in-Some.node None ∙ c.loop-node.invariant.places));
      last = c.in-Some.d;
      search = turn.keeps c.take_least.new.self c.offer_neighbours.new.heap c.in-Some.ensures.taken.1 done;
    }

pub returns-clause-settled : goal.returns-clause-settled
returns-clause-settled g c =
    let net = c.args.network.now in
    let can = c.requires.searchable in
    search_ends (g.N.Network.graph net) (g.N.Network.weight net) c.args.base can.few can.short (at c.loop-node.distance) c.loop-node.heap c.loop-node.invariant.last _ c.loop-node.invariant.search can.is_graph can.connected c.requires.base c.in_default.ensures.taken.0
