use Rattle.std.proofs.Common.{◌≡◌, ◌<◌, ◌∙◌, ℕ, arith, refl}
use Rattle.surf_base.specs.Tables.{at}
use Rattle.surf_tree.specs.Searches.{far}
use Rattle.surf_tree.proofs.Queues.{queue_begins, queue_ends}
use Rattle.surf_tree.proofs.even.settle_even.Goals as goal

pub loop-place-init : goal.loop-place-init
loop-place-init g c =
    let net = c.args.network.now in
    let graph = g.N.Network.graph net in
    let can = c.requires.searchable in
    let free : (u : ℕ) → u < graph.nodes → at c.fill.new.self u ≡ far = λ u l. c.fill.ensures.clones u 0 (omega (arith, c.requires.distances)) refl in
    let begins = queue_begins graph (g.N.Network.weight net) c.args.size can.few c.requires.even (omega arith) c.args.base c.requires.base c.fill.new.self c.args.order.now (c.fill.ensures.len ∙ c.requires.distances) c.requires.order free in
    record { queue = begins.0; first = begins.1 }

pub returns : goal.returns
returns g c =
    let net = c.args.network.now in
    let can = c.requires.searchable in
    let q = c.loop-place.invariant.queue in
    let end : c.loop-place.place ≡ c.loop-place.count = omega (arith, q.place_in, c.loop-place-test.false) in
    record { settled = queue_ends (g.N.Network.graph net) (g.N.Network.weight net) c.args.size can.few c.requires.even (omega arith) c.loop-place.distance c.loop-place.order c.loop-place.count c.args.base can.is_graph can.connected c.requires.base (rw end at q) c.loop-place.invariant.first }
