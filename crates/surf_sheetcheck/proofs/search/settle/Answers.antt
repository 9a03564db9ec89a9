use Rattle.surf_surfaces.proofs.Common.{rules, ◌≡◌, ◌≤◌, ◌∙◌, [], ◌∷◌, ◌++◌, length, arith, ap, sym, None, set, length-set, primal, cells_of, subst}
use Rattle.surf_surfaces.specs.Walk.{edge_length}
use Rattle.surf_lengths.specs.Lengths.{longest}
use Rattle.surf_base.specs.Tables.{at}
use Rattle.surf_sheetcheck.proofs.SearchWords.{IsOrder}
use Rattle.surf_sheetcheck.proofs.Settling.{search_begins}
use Rattle.surf_sheetcheck.proofs.Offering.{all_free, least_turn}
use Rattle.surf_sheetcheck.proofs.Listing.{order_none, order_more, search_ends, short_edges, in_all}
use Rattle.surf_sheetcheck.proofs.search.settle.Goals as goal

pub loop-node-init : goal.loop-node-init
loop-node-init c =
    let mesh = c.args.field.now.mesh.now in
    let lengths = c.args.field.now.lengths.now in
    let few : mesh.vertices ≤ longest = omega (arith, c.law_of_surface.ensures.vertices) in
    record {
      places = c.requires.seeds.places;
      last = 0;
      search = search_begins (primal (cells_of mesh)) (edge_length lengths) c.args.field.now.part.now c.args.field.now.limit few (short_edges lengths c.law_of_lengths.ensures.lengths) (at c.args.distance.now) c.args.heap.now _
          (all_free mesh.vertices c.args.distance.now c.requires.free) c.requires.limit c.requires.free
          (in_all mesh.vertices c.args.field.now.part.now c.requires.inside) c.requires.seeds;
      order = order_none mesh.vertices c.args.distance.now c.args.order.now.items c.requires.free c.requires.order;
    }

pub bounds-distance-node : goal.bounds-distance-node
bounds-distance-node c =
    let mesh = c.args.field.now.mesh.now in
    let few : mesh.vertices ≤ longest = omega (arith, c.law_of_surface.ensures.vertices) in
    let turn = least_turn few (short_edges c.args.field.now.lengths.now c.law_of_lengths.ensures.lengths) c.loop-node.distance (omega (arith, c.requires.distances)) c.loop-node.invariant.search c.in-Some.ensures.taken.0 in
    omega (arith, turn.inside.0, c.requires.distances)

pub offer_neighbours-requires-clause-node : goal.offer_neighbours-requires-clause-node
offer_neighbours-requires-clause-node c =
    let mesh = c.args.field.now.mesh.now in
    let few : mesh.vertices ≤ longest = omega (arith, c.law_of_surface.ensures.vertices) in
    let turn = least_turn few (short_edges c.args.field.now.lengths.now c.law_of_lengths.ensures.lengths) c.loop-node.distance (omega (arith, c.requires.distances)) c.loop-node.invariant.search c.in-Some.ensures.taken.0 in
    turn.inside.0

pub offer_neighbours-requires-clause-places : goal.offer_neighbours-requires-clause-places
offer_neighbours-requires-clause-places c = ap length c.in-Some.ensures.taken.1 ∙ (length-set c.loop-node.heap c.in-Some.node None ∙ c.loop-node.invariant.places)

pub offer_neighbours-requires-clause-fits : goal.offer_neighbours-requires-clause-fits
offer_neighbours-requires-clause-fits c =
    let mesh = c.args.field.now.mesh.now in
    let few : mesh.vertices ≤ longest = omega (arith, c.law_of_surface.ensures.vertices) in
    let turn = least_turn few (short_edges c.args.field.now.lengths.now c.law_of_lengths.ensures.lengths) c.loop-node.distance (omega (arith, c.requires.distances)) c.loop-node.invariant.search c.in-Some.ensures.taken.0 in
    omega (arith, turn.inside.1, few)

pub loop-node-smaller : goal.loop-node-smaller
loop-node-smaller c =
    let mesh = c.args.field.now.mesh.now in
    let few : mesh.vertices ≤ longest = omega (arith, c.law_of_surface.ensures.vertices) in
    let turn = least_turn few (short_edges c.args.field.now.lengths.now c.law_of_lengths.ensures.lengths) c.loop-node.distance (omega (arith, c.requires.distances)) c.loop-node.invariant.search c.in-Some.ensures.taken.0 in
    turn.smaller

pub loop-node-preserved : goal.loop-node-preserved
loop-node-preserved c =
    let mesh = c.args.field.now.mesh.now in
    let few : mesh.vertices ≤ longest = omega (arith, c.law_of_surface.ensures.vertices) in
    let turn = least_turn few (short_edges c.args.field.now.lengths.now c.law_of_lengths.ensures.lengths) c.loop-node.distance (omega (arith, c.requires.distances)) c.loop-node.invariant.search c.in-Some.ensures.taken.0 in
    let done = c.offer_neighbours.ensures.offered in
    let inv = c.loop-node.invariant in
    let items : c.push.new.self.items ≡ c.loop-node.order.items ++ c.in-Some.node ∷ [] = search rules in
    record {
      places = done.same_length ∙ (ap length c.in-Some.ensures.taken.1 ∙ (length-set c.loop-node.heap c.in-Some.node None ∙ inv.places));
      last = c.in-Some.d;
      search = turn.keeps c.take_least.new.self c.offer_neighbours.new.heap c.in-Some.ensures.taken.1 done;
      order = subst (λ xs. IsOrder mesh.vertices (set c.loop-node.distance c.in-Some.node c.in-Some.d) xs c.in-Some.d) (sym items)
          (order_more mesh.vertices c.loop-node.distance c.loop-node.order.items inv.last c.in-Some.node c.in-Some.d inv.order
          (omega (arith, c.requires.distances)) turn.inside.0 turn.unsettled turn.near_end (turn.after inv.last inv.search));
    }

pub returns-clause-settled : goal.returns-clause-settled
returns-clause-settled c =
    let mesh = c.args.field.now.mesh.now in
    search_ends (primal (cells_of mesh)) (edge_length c.args.field.now.lengths.now) c.args.field.now.part.now c.args.field.now.limit c.loop-node.distance c.loop-node.order.items c.loop-node.heap c.loop-node.invariant.last _
    c.loop-node.invariant.search c.loop-node.invariant.order c.in_default.ensures.taken.0
