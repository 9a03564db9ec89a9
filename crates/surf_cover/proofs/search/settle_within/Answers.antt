use Rattle.surf_cotree.proofs.Common.{◌≡◌, ◌<◌, ◌∙◌, ℕ, List, [], ◌∷◌, length, set, arith, sym, subst, eqb, length-append, count_below, length-set, at}
use Rattle.surf_cover.proofs.Common.{far, search_begins, all_free, first_offer, least_turn, one_less}
use Rattle.surf_tree.specs.Searches.{IsOffered}
use Rattle.surf_cover.proofs.Within.{none_listed, one_listed, within_ends}
use Rattle.surf_cover.proofs.search.settle_within.Goals as goal

pub loop-node-init : goal.loop-node-init
loop-node-init g c =
    let net = c.args.network.now in
    let graph = g.N.Network.graph net in
    let can = c.requires.searchable in
    let distances = c.forget.new.self.distance.items in
    let nodes : length distances ≡ graph.nodes = c.forget.ensures.nodes ∙ c.requires.nodes in
    let free : (u : ℕ) → u < graph.nodes → at distances u ≡ far = λ u l. c.forget.ensures.none u (omega (arith, nodes, l)) in
    let none : count_below graph.nodes (λ u. eqb (at distances u) far) ≡ graph.nodes = all_free graph.nodes distances free in
    let first = first_offer graph.nodes c.args.base c.clear.new.self c.offer.new.self c.requires.base
    (rw (← c.requires.places) c.clear.ensures.empty) c.offer.ensures.entry in
    record {
      places = first.2;
      nodes = nodes;
      room = omega (arith, c.requires.room, c.forget.ensures.room);
      listed = none_listed distances c.forget.new.self.settled.items c.forget.ensures.none c.forget.ensures.settled;
      counted = rw (c.forget.ensures.settled, none) (omega arith);
      last = 0;
      last_in = omega arith;
      search = search_begins graph (g.N.Network.weight net) c.args.base can.few can.short (at distances) c.offer.new.self _
          c.requires.base none free first.0 first.1;
    }

pub settle-requires-clause-node : goal.settle-requires-clause-node
settle-requires-clause-node g c =
    let can = c.requires.searchable in
    let i = c.loop-node.invariant in
    let (tie, least) = c.in-Some.ensures.taken.2 in
    let turn = least_turn can.few can.short c.loop-node.reached.distance.items i.nodes i.search least in
    omega (arith, turn.inside.0, i.nodes)

pub settle-requires-clause-room : goal.settle-requires-clause-room
settle-requires-clause-room g c =
    let can = c.requires.searchable in
    let i = c.loop-node.invariant in
    let (tie, least) = c.in-Some.ensures.taken.2 in
    let turn = least_turn can.few can.short c.loop-node.reached.distance.items i.nodes i.search least in
    omega (arith, turn.smaller, i.counted, i.room)

pub offer_links-requires-clause-node : goal.offer_links-requires-clause-node
offer_links-requires-clause-node g c =
    let can = c.requires.searchable in
    let i = c.loop-node.invariant in
    let (tie, least) = c.in-Some.ensures.taken.2 in
    let turn = least_turn can.few can.short c.loop-node.reached.distance.items i.nodes i.search least in
    turn.inside.0

pub offer_links-requires-clause-fits : goal.offer_links-requires-clause-fits
offer_links-requires-clause-fits g c =
    let can = c.requires.searchable in
    let i = c.loop-node.invariant in
    let (tie, least) = c.in-Some.ensures.taken.2 in
    let turn = least_turn can.few can.short c.loop-node.reached.distance.items i.nodes i.search least in
    omega (arith, turn.inside.1, can.few)

pub loop-node-smaller : goal.loop-node-smaller
loop-node-smaller g c =
    let can = c.requires.searchable in
    let i = c.loop-node.invariant in
    let (tie, least) = c.in-Some.ensures.taken.2 in
    let turn = least_turn can.few can.short c.loop-node.reached.distance.items i.nodes i.search least in
    rw c.settle.ensures.distance turn.smaller

pub loop-node-preserved : goal.loop-node-preserved
loop-node-preserved g c =
    let net = c.args.network.now in
    let graph = g.N.Network.graph net in
    let can = c.requires.searchable in
    let i = c.loop-node.invariant in
    let old = c.loop-node.reached.distance.items in
    let v = c.in-Some.node in
    let k = c.in-Some.d in
    let new = set old v k in
    let (tie, least) = c.in-Some.ensures.taken.2 in
    let turn = least_turn can.few can.short old i.nodes i.search least in
    let outside = i.search.outside v k tie least.holds in
    let nodes = i.nodes in
    let near : k ≡ far → ⊥ = λ e. absurd (omega (arith, turn.inside.1, can.few, e)) in
    let taken = c.in-Some.ensures.taken.1 in
    let fewer = one_less graph.nodes v k old turn.inside.0 (sym nodes) outside.unsettled near in
    let seen : c.deref.result.now ≡ new = c.deref.ensures.value ∙ c.settle.ensures.distance in
    let done : IsOffered graph (g.N.Network.weight net) (at new) v k c.take_within.new.heap c.offer_links.new.heap =
    subst (λ (xs : List ℕ). IsOffered graph (g.N.Network.weight net) (at xs) v k c.take_within.new.heap c.offer_links.new.heap)
    seen c.offer_links.ensures.offered in
    let more = length-append c.loop-node.reached.settled.items (v ∷ []) in
    rw (c.settle.ensures.distance, c.settle.ensures.settled) (record {
      places = done.same_length ∙ c.in-Some.ensures.places ∙ i.places;
      nodes = length-set old v k ∙ nodes;
      room = omega (arith, i.room, c.settle.ensures.room);
      listed = one_listed old c.loop-node.reached.settled.items v k (omega (arith, turn.inside.0, nodes)) near i.listed;
      counted = omega (arith, more, fewer, i.counted);
      last = k;
      last_in = c.in-Some.ensures.taken.0;
      search = turn.keeps c.take_within.new.heap c.offer_links.new.heap taken done;
    })

pub returns-clause-reached : goal.returns-clause-reached
returns-clause-reached g c =
    let net = c.args.network.now in
    let i = c.loop-node.invariant in
    within_ends (g.N.Network.graph net) (g.N.Network.weight net) c.args.base c.args.radius
    (at c.loop-node.reached.distance.items) c.loop-node.heap i.last _ i.search i.last_in c.in_default.ensures.taken
