use Rattle.std.proofs.Common.{ℕ, List, length, ap, ◌∙◌, arith}
use Rattle.surf_finder.proofs.Numbered.{item_settled, settled_in, has_parent, ways_more, ways_all}
use Rattle.surf_finder.proofs.Told.{links_positive}
use Rattle.surf_finder.proofs.ways.Ways.sum.Goals as goal

pub add-requires-clause-vertex : goal.add-requires-clause-vertex
add-requires-clause-vertex c =
    let mesh = c.args.surface.now.mesh.now in
    let lengths = c.args.links.now.lengths in
    let near = c.requires.reached.near in
    let positive = links_positive mesh c.args.links.now.mesh lengths c.args.links.now.rows c.requires.links c.law_of_links.ensures.links in
    let it = item_settled c.settled-v-items.result.now c.args.desk.now.settled c.loop-v.v-index c.v-item.result c.settled-v-items.ensures.settled c.loop-v-test.true c.v-item.is in
    let inside = settled_in mesh lengths c.law_of_surface.ensures.surface positive c.args.base c.requires.reached.far c.requires.base c.args.surface.now.signatures.now c.args.desk.now near c.loop-v.v-index it.0 in
    omega (arith, it.1, inside, c.loop-v.invariant.count)

pub add-requires-clause-parents : goal.add-requires-clause-parents
add-requires-clause-parents c =
    let mesh = c.args.surface.now.mesh.now in
    let lengths = c.args.links.now.lengths in
    let near = c.requires.reached.near in
    let positive = links_positive mesh c.args.links.now.mesh lengths c.args.links.now.rows c.requires.links c.law_of_links.ensures.links in
    let it = item_settled c.settled-v-items.result.now c.args.desk.now.settled c.loop-v.v-index c.v-item.result c.settled-v-items.ensures.settled c.loop-v-test.true c.v-item.is in
    let inside = settled_in mesh lengths c.law_of_surface.ensures.surface positive c.args.base c.requires.reached.far c.requires.base c.args.surface.now.signatures.now c.args.desk.now near c.loop-v.v-index it.0 in
    omega (arith, it.1, inside, near.made.parents)

pub add-requires-clause-ups : goal.add-requires-clause-ups
add-requires-clause-ups c =
    let mesh = c.args.surface.now.mesh.now in
    let lengths = c.args.links.now.lengths in
    let near = c.requires.reached.near in
    let positive = links_positive mesh c.args.links.now.mesh lengths c.args.links.now.rows c.requires.links c.law_of_links.ensures.links in
    let it = item_settled c.settled-v-items.result.now c.args.desk.now.settled c.loop-v.v-index c.v-item.result c.settled-v-items.ensures.settled c.loop-v-test.true c.v-item.is in
    let inside = settled_in mesh lengths c.law_of_surface.ensures.surface positive c.args.base c.requires.reached.far c.requires.base c.args.surface.now.signatures.now c.args.desk.now near c.loop-v.v-index it.0 in
    omega (arith, it.1, inside, near.made.ups)

pub add-requires-clause-parent : goal.add-requires-clause-parent
add-requires-clause-parent c =
    let mesh = c.args.surface.now.mesh.now in
    let lengths = c.args.links.now.lengths in
    let positive = links_positive mesh c.args.links.now.mesh lengths c.args.links.now.rows c.requires.links c.law_of_links.ensures.links in
    let it = item_settled c.settled-v-items.result.now c.args.desk.now.settled c.loop-v.v-index c.v-item.result c.settled-v-items.ensures.settled c.loop-v-test.true c.v-item.is in
    has_parent mesh lengths c.law_of_surface.ensures.surface positive c.args.base c.requires.reached.far c.requires.base c.args.surface.now.signatures.now c.args.desk.now c.requires.reached.near
    c.loop-v.self c.loop-v.v-index c.v-item.result it.0 it.1 c.loop-v.invariant.count c.requires.signatures c.loop-v.invariant.ways

pub add-requires-clause-few : goal.add-requires-clause-few
add-requires-clause-few c =
    omega (arith, c.loop-v.invariant.few, c.loop-v-test.true, c.settled-v-items.ensures.few, c.requires.reached.near.made.distances, c.law_of_surface.ensures.vertices)

pub loop-v-preserved : goal.loop-v-preserved
loop-v-preserved c =
    let mesh = c.args.surface.now.mesh.now in
    let lengths = c.args.links.now.lengths in
    let positive = links_positive mesh c.args.links.now.mesh lengths c.args.links.now.rows c.requires.links c.law_of_links.ensures.links in
    let it = item_settled c.settled-v-items.result.now c.args.desk.now.settled c.loop-v.v-index c.v-item.result c.settled-v-items.ensures.settled c.loop-v-test.true c.v-item.is in
    record {
      ways = ways_more mesh lengths c.law_of_surface.ensures.surface positive c.args.base c.requires.reached.far c.requires.base c.args.surface.now.signatures.now c.args.desk.now c.requires.reached.near
          c.loop-v.self c.add.new.self c.loop-v.v-index c.v-item.result it.0 it.1 c.loop-v.invariant.ways c.in_ok-add.ensures.numbered;
      none = c.in_ok-add.ensures.none;
      count = c.add.ensures.count ∙ c.loop-v.invariant.count;
      few = omega (arith, c.add.ensures.one, c.loop-v.invariant.few);
    }

pub returns-clause-ways : goal.returns-clause-ways
returns-clause-ways c =
    let mesh = c.args.surface.now.mesh.now in
    let lengths = c.args.links.now.lengths in
    let positive = links_positive mesh c.args.links.now.mesh lengths c.args.links.now.rows c.requires.links c.law_of_links.ensures.links in
    ways_all mesh lengths c.law_of_surface.ensures.surface positive c.args.base c.requires.reached.far c.requires.base c.args.surface.now.signatures.now c.args.desk.now c.requires.reached.near
    c.loop-v.self c.loop-v.v-index (omega (arith, c.loop-v-test.false, ap (λ (xs : List ℕ). length xs) c.settled-v-items.ensures.settled)) c.loop-v.invariant.ways
