use Rattle.surf_near.proofs.Common.{◌≡◌, ◌<◌, ◌∙◌, ℕ, List, length, arith, set, ap, sym, subst, None, get_or-set_same, eqb, count_below, length-set, at, first_offer, never, graph_of, weight_of, IsChoice, OffersNear}
use Rattle.surf_near.proofs.Linking.{links_small, links_short, links_positive}
use Rattle.surf_near.proofs.Turns.{near_begins, near_ends, turn_in, turn_short, turn_fewer, turn_room, turn_near}
use Rattle.surf_near.proofs.search.settle_near.Goals as goal

pub loop-v-init : goal.loop-v-init
loop-v-init c =
    let net = c.args.links.now in
    let are = c.requires.links in
    let base = c.args.base in
    let first = first_offer net.mesh.vertices base c.clear.new.self.entries c.offer.new.self.entries c.requires.base (rw (← c.requires.places) c.clear.ensures.empty) (rw (← c.number.ensures) c.offer.ensures.entry) in
    record {
      places = first.2;
      step = rw (c.offer.ensures.step, c.clear.ensures.step) c.step.ensures.step;
      search = near_begins (graph_of net) (weight_of net) base c.args.radius (links_small net are) (links_short net are) c.args.tables.now c.offer.new.self.entries c.requires.base c.requires.blank first.0 first.1;
    }

pub list-requires-clause-room : goal.list-requires-clause-room
list-requires-clause-room c =
    let net = c.args.links.now in
    let are = c.requires.links in
    let s = c.loop-v.invariant.search in
    let room = turn_room (graph_of net) (weight_of net) c.args.base c.args.radius (links_small net are) (links_short net are) c.loop-v.tables c.loop-v.fringe.entries s c.in-Some.v c.in-Some.d c.in-Some.ensures.taken.0 in
    omega (arith, room, s.room.order)

pub look_round-choice-requires-clause-fits : goal.look_round-choice-requires-clause-fits
look_round-choice-requires-clause-fits c =
    let net = c.args.links.now in
    let are = c.requires.links in
    let few = links_small net are in
    let s = c.loop-v.invariant.search in
    let all = turn_short (graph_of net) (weight_of net) c.args.base c.args.radius few (links_short net are) c.loop-v.tables c.loop-v.fringe.entries s c.in-Some.v c.in-Some.d c.in-Some.ensures.taken.0 in
    rw (c.deref.ensures.value, c.list.ensures.distance) (λ u l settled. let f = all u l settled in omega (arith, f, few))

pub look_round-choice-requires-clause-settled : goal.look_round-choice-requires-clause-settled
look_round-choice-requires-clause-settled c =
    let net = c.args.links.now in
    let are = c.requires.links in
    let few = links_small net are in
    let s = c.loop-v.invariant.search in
    let inside = turn_in (graph_of net) (weight_of net) c.args.base c.args.radius few (links_short net are) c.loop-v.tables c.loop-v.fringe.entries s c.in-Some.v c.in-Some.d c.in-Some.ensures.taken.0 in
    let here = get_or-set_same c.loop-v.tables.distance.items c.in-Some.v c.in-Some.d 0 (omega (arith, inside.0, s.room.distance)) in
    rw (c.deref.ensures.value, c.list.ensures.distance, c.new.ensures, here) (λ e. absurd (omega (arith, inside.1, few, e)))

-- the distances after a turn
distance_after : (old mid new : List ℕ) (v k : ℕ) → mid ≡ set old v k → new ≡ mid → new ≡ set old v k
distance_after old mid new v k a b = b ∙ a

pub loop-v-smaller : goal.loop-v-smaller
loop-v-smaller c =
    let net = c.args.links.now in
    let are = c.requires.links in
    let s = c.loop-v.invariant.search in
    let fewer = turn_fewer (graph_of net) (weight_of net) c.args.base c.args.radius (links_small net are) (links_short net are) c.loop-v.tables c.loop-v.fringe.entries s c.in-Some.v c.in-Some.d c.in-Some.ensures.taken.0 in
    let now = distance_after c.loop-v.tables.distance.items c.list.new.self.distance.items c.keep.new.self.distance.items c.in-Some.v c.in-Some.d c.list.ensures.distance (ap (λ d. d.items) c.keep.ensures.distance) in
    subst (λ (xs : List ℕ). count_below net.mesh.vertices (λ u. eqb (at xs u) never) < count_below net.mesh.vertices (λ u. eqb (at c.loop-v.tables.distance.items u) never)) (sym now) fewer

pub loop-v-preserved : goal.loop-v-preserved
loop-v-preserved c =
    let net = c.args.links.now in
    let are = c.requires.links in
    let graph = graph_of net in
    let len = weight_of net in
    let few = links_small net are in
    let t = c.loop-v.tables in
    let heap = c.loop-v.fringe.entries in
    let s = c.loop-v.invariant.search in
    let v = c.in-Some.v in
    let k = c.in-Some.d in
    let choice = c.look_round-choice.result in
    let dist = set t.distance.items v k in
    let inside = turn_in graph len c.args.base c.args.radius few (links_short net are) t heap s v k c.in-Some.ensures.taken.0 in
    let here : at dist v ≡ k = get_or-set_same t.distance.items v k 0 (omega (arith, inside.0, s.room.distance)) in
    let listed : c.deref.result.now ≡ dist = c.deref.ensures.value ∙ c.list.ensures.distance in
    let leasts : c.deref-in-Some.result.now ≡ t.least.items = c.deref-in-Some.ensures.value ∙ ap (λ d. d.items) c.list.ensures.least in
    let chosen : IsChoice graph len (at dist) (at t.least.items) v choice.parent choice.up choice.least = rw (listed, leasts, c.new.ensures) at c.look_round-choice.ensures.choice in
    let taken = c.in-Some.ensures.taken.1 in
    let offers : OffersNear graph len (at dist) v k c.args.radius (set heap v None) c.look_round-choice.new.fringe.entries = rw (listed, c.new.ensures, here, taken) at c.look_round-choice.ensures.offers in
    record {
      step = rw (c.look_round-choice.ensures.step, c.in-Some.ensures.step) c.loop-v.invariant.step;
      places = c.look_round-choice.ensures.places ∙ (ap length taken ∙ (length-set heap v None ∙ c.loop-v.invariant.places));
      search = turn_near graph len c.args.base c.args.radius few (links_short net are) t heap s v k c.in-Some.ensures.taken.0 (links_positive net are)
          c.keep.new.self c.look_round-choice.new.fringe.entries choice.parent choice.up choice.least
          (ap (λ d. d.items) c.keep.ensures.order ∙ c.list.ensures.order)
          (c.keep.ensures.count ∙ c.list.ensures.count)
          (ap (λ d. d.items) c.keep.ensures.distance ∙ c.list.ensures.distance)
          (c.keep.ensures.parent ∙ ap (λ d. set d.items v choice.parent) c.list.ensures.parent)
          (c.keep.ensures.up ∙ ap (λ d. set d.items v choice.up) c.list.ensures.up)
          (c.keep.ensures.least ∙ ap (λ d. set d.items v choice.least) c.list.ensures.least)
          chosen offers;
    }

pub returns-clause-found : goal.returns-clause-found
returns-clause-found c =
    let net = c.args.links.now in
    let are = c.requires.links in
    near_ends (graph_of net) (weight_of net) c.args.base c.args.radius (links_small net are) (links_short net are) c.loop-v.tables c.loop-v.fringe.entries c.loop-v.invariant.search c.in_default.ensures.taken.0
