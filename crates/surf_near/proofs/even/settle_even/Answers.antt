use Rattle.surf_near.proofs.Common.{◌≡◌, ◌∙◌, ap, arith, refl, sym, at, graph_of, weight_of}
use Rattle.surf_near.proofs.Linking.{links_small, links_positive, links_even, read_at}
use Rattle.surf_near.proofs.Queues.{queue_begins, queue_next, queue_ends}
use Rattle.surf_near.proofs.even.settle_even.Goals as goal

pub loop-place-init : goal.loop-place-init
loop-place-init c =
    let net = c.args.links.now in
    let are = c.requires.links in
    let begins = queue_begins (graph_of net) (weight_of net) c.args.size c.args.radius (links_small net are) (links_positive net are)
    (links_even net are c.args.radius c.args.size c.requires.even) (omega arith) c.args.tables.now c.list.new.self c.args.base c.requires.base c.requires.blank
    (rw c.number.ensures at c.list.ensures.order) c.list.ensures.count (rw c.number.ensures at c.list.ensures.distance) c.list.ensures.parent c.list.ensures.up c.list.ensures.least in
    record { queue = begins.0; first = begins.1 }

pub loop-place-preserved : goal.loop-place-preserved
loop-place-preserved c =
    let net = c.args.links.now in
    let are = c.requires.links in
    let size = c.args.size in
    let place = c.loop-place.place in
    let before = c.loop-place.tables in
    let q = c.loop-place.invariant.queue in
    let after = c.look_ahead-choice.new.tables in
    let choice = c.look_ahead-choice.result in
    let looked = c.look_ahead-choice.ensures.looked in
    let v : c.number-v.result ≡ at after.order.items place =
    c.number-v.ensures ∙ (read_at before.order.items place place c.index.result.now c.index.ensures refl (omega (arith, c.loop-place-test.true, q.counted, q.room.order)) ∙ sym c.look_ahead-choice.ensures.same) in
    record {
      queue = queue_next (graph_of net) (weight_of net) size c.args.radius (links_small net are) (links_positive net are) (links_even net are c.args.radius size c.requires.even) (omega arith)
          after c.keep.new.self place choice.parent choice.up choice.least looked c.keep.ensures.order c.keep.ensures.count c.keep.ensures.distance
          (rw v at c.keep.ensures.parent) (rw v at c.keep.ensures.up) (rw v at c.keep.ensures.least);
      first = ap (λ xs. at xs.items 0) c.keep.ensures.order ∙ c.look_ahead-choice.ensures.first ∙ c.loop-place.invariant.first;
    }

pub returns : goal.returns
returns c =
    let net = c.args.links.now in
    let are = c.requires.links in
    let q = c.loop-place.invariant.queue in
    let end : c.loop-place.place ≡ c.loop-place.tables.count = omega (arith, q.place_in, c.loop-place-test.false) in
    record {
      found = queue_ends (graph_of net) (weight_of net) c.args.size c.args.radius (links_small net are) (links_positive net are)
          (links_even net are c.args.radius c.args.size c.requires.even) (omega arith) c.loop-place.tables c.args.base (rw end at q) c.loop-place.invariant.first;
    }
