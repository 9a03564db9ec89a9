use Rattle.surf_near.proofs.Common.{◌≡◌, ◌≢◌, ◌<◌, ◌≤◌, ◌⊎◌, ◌+◌, ◌∙◌, ℕ, length, get_or, set, get_or-set_other, arith, map, ap, sym, subst, inl, inr, refl, length-map, at, Tables, never, LinkTables, AreLinksAt, graph_of, weight_of, ends_of, length_past, IsQueue}
use Rattle.surf_near.proofs.Linking.{links_small, links_positive, links_even, item_link, item_in, item_edge_in, item_with, read_at}
use Rattle.surf_near.proofs.Choices.{choice_skip, choice_take}
use Rattle.surf_near.proofs.Queues.{queue_in, queue_short, queue_room, looking_passes, looking_settled, looking_lists, looking_ends}
use Rattle.surf_near.proofs.even.look_ahead.Goals as goal
use Rattle.surf_near.proofs.even.look_ahead.Goals.{then-there+then-next-radius+then-length_past-size, then-there+else-next-radius, else-next-radius-via-then-next-radius+else-length_past-size, else-next-radius-via-else-next-radius}
use Rattle.surf_near.proofs.even.look_ahead.Goals.{else-there+then-there-from+then-length_past-size-2, else-there+else-there-from, else-there-from-via-then-there-from+else-length_past-size-2, else-there-from-via-else-there-from}

-- the node at a place, as it was read
node_read : (net : LinkTables) (size radius place : ℕ) (t : Tables) → IsQueue (graph_of net) (weight_of net) size radius t place →
    place < t.count → (x : ℕ) → x ≡ get_or t.order.items place x → x ≡ at t.order.items place
node_read net size radius place t q here x read = read_at t.order.items place place x read refl (omega (arith, here, q.counted, q.room.order))

-- listing one more leaves the first
first_kept : (t t2 : Tables) (w : ℕ) → t2.order.items ≡ set t.order.items t.count w → 0 < t.count → at t2.order.items 0 ≡ at t.order.items 0
first_kept t t2 w order_is some = ap (λ xs. at xs 0) order_is ∙ get_or-set_other t.order.items t.count 0 w 0 (λ same. absurd (omega arith))

pub overflow_add-next : goal.overflow_add-next
overflow_add-next c =
    let net = c.args.links.now in
    let are = c.requires.links in
    let t = c.args.tables.now in
    let q = c.requires.queue in
    let v = node_read net c.args.size c.args.radius c.args.place t q c.requires.place c.index-v.result.now c.index-v.ensures in
    let few = links_small net are in
    let inside = queue_in (graph_of net) (weight_of net) c.args.size c.args.radius few (links_positive net are) (links_even net are c.args.radius c.args.size c.requires.even) (omega arith) t c.args.place q c.args.place c.requires.place in
    let d = read_at t.distance.items c.index.result (at t.order.items c.args.place) c.index-d.result.now c.index-d.ensures (c.index.ensures ∙ v) (omega (arith, inside.0, q.room.distance)) in
    omega (arith, inside.1, d, few, c.from.ensures)

pub list-requires-clause-room : goal.list-requires-clause-room
list-requires-clause-room c =
    let net = c.args.links.now in
    let are = c.requires.links in
    let t = c.loop-link.tables in
    let q = c.loop-link.invariant.looking.queue in
    let w = c.link-item.result.to in
    let inside = item_in net.mesh net.lengths c.index-v.result.now c.around-around.result.links.now c.around-around.ensures.row c.loop-link.link-index c.loop-link-test.true c.link-item.result c.link-item.is in
    let there : c.index-there.result.now ≡ at t.distance.items w = read_at t.distance.items c.index-in-loop-link.result w c.index-there.result.now c.index-there.ensures c.index-in-loop-link.ensures (omega (arith, inside, q.room.distance)) in
    queue_room (graph_of net) (weight_of net) c.args.size c.args.radius (links_small net are) (links_positive net are) (links_even net are c.args.radius c.args.size c.requires.even) (omega arith) t c.args.place q w inside (sym there ∙ c.if-there.true)

pub overflow_add-there : goal.overflow_add-there
overflow_add-there c =
    let net = c.args.links.now in
    let are = c.requires.links in
    let t = c.loop-link.tables in
    let q = c.loop-link.invariant.looking.queue in
    let w = c.link-item.result.to in
    let few = links_small net are in
    let inside = item_in net.mesh net.lengths c.index-v.result.now c.around-around.result.links.now c.around-around.ensures.row c.loop-link.link-index c.loop-link-test.true c.link-item.result c.link-item.is in
    let there : c.index-there.result.now ≡ at t.distance.items w = read_at t.distance.items c.index-in-loop-link.result w c.index-there.result.now c.index-there.ensures c.index-in-loop-link.ensures (omega (arith, inside, q.room.distance)) in
    let short = queue_short (graph_of net) (weight_of net) c.args.size c.args.radius few (links_positive net are) (links_even net are c.args.radius c.args.size c.requires.even) (omega arith) t c.args.place q w inside (λ none. absurd (c.if-there.false (there ∙ none))) in
    omega (arith, short, there, few, c.from-else-there.ensures)

pub loop-link-preserved : goal.loop-link-preserved
loop-link-preserved c =
    let net = c.args.links.now in
    let are = c.requires.links in
    let graph = graph_of net in
    let len = weight_of net in
    let few = links_small net are in
    let positive = links_positive net are in
    let size = c.args.size in
    let even = links_even net are c.args.radius size c.requires.even in
    let radius = c.args.radius in
    let place = c.args.place in
    let t = c.loop-link.tables in
    let looking = c.loop-link.invariant.looking in
    let q = looking.queue in
    let v = at c.args.tables.now.order.items place in
    let d = c.index-d.result.now in
    let items = c.around-around.result.links.now in
    let links = map ends_of items in
    let v_is = node_read net size radius place c.args.tables.now c.requires.queue c.requires.place c.index-v.result.now c.index-v.ensures in
    let rows : AreLinksAt net.mesh net.lengths v items = subst (λ (u : ℕ). AreLinksAt net.mesh net.lengths u items) v_is c.around-around.ensures.row in
    let n = c.loop-link.link-index in
    let old = c.loop-link.best in
    let x = c.link-item.result in
    let w = x.to in
    let f = x.edge in
    let long = length-map items ends_of in
    let ln : n < length links = omega (arith, long, c.loop-link-test.true) in
    let is = item_link net.mesh net.lengths v items rows n c.loop-link-test.true x c.link-item.is in
    let inside = item_in net.mesh net.lengths v items rows n c.loop-link-test.true x c.link-item.is in
    let there : c.index-there.result.now ≡ at t.distance.items w = read_at t.distance.items c.index-in-loop-link.result w c.index-there.result.now c.index-there.ensures c.index-in-loop-link.ensures (omega (arith, inside, q.room.distance)) in
    let around = c.around-around in
    let past : length_past around.result.barred.now around.result.shut x ≡ len f = item_with net.mesh net.lengths v items rows n c.loop-link-test.true x c.link-item.is
    (λ y. length_past around.result.barred.now around.result.shut y ≡ len y.edge) around.ensures.lengths in
    let one : (len f ≡ size) ⊎ (radius < len f) = even f (item_edge_in net.mesh net.lengths v items rows n c.loop-link-test.true x c.link-item.is) in
    let d_near : d ≤ radius = omega (arith, q.within place looking.here, ap (at t.distance.items) looking.node, looking.distance) in
    elim c.if-there.branch [
      | then-there+then-next-radius+then-length_past-size b ↦
          let free : at t.distance.items w ≡ never = sym there ∙ b.if-there.true in
          let size_is : len f ≡ size = omega (arith, past, b.length_past.ensures.length, b.if-length_past-size.true) in
          let next : d + c.from.result ≡ d + size = omega (arith, c.from.ensures) in
          let listed = b.list.ensures in
          rw (b.tables-is, b.best-is) (record {
            looking = looking_lists graph len size radius few positive even (omega arith) t place v d links rows.row n old.parent old.up old.least looking w f ln is
                b.list.new.self free size_is (omega (arith, b.if-next-radius.true, c.from.ensures)) (rw c.number-to.ensures at listed.order) listed.count
                (rw (c.number-to.ensures, next) at listed.distance) listed.parent listed.up listed.least;
            first = first_kept t b.list.new.self c.number-to.result listed.order q.some ∙ c.loop-link.invariant.first;
          })
      | then-there+else-next-radius b ↦
          let free : at t.distance.items w ≡ never = sym there ∙ b.if-there.true in
          rw (b.tables-is, b.best-is) (record {
            looking = looking_passes graph len size radius few positive even (omega arith) t place v d links rows.row n old.parent old.up old.least looking w f ln is
                free (elim one [
                  | inl is_size ↦ elim b.else-next-radius.branch [
                    | else-next-radius-via-then-next-radius+else-length_past-size y ↦ absurd (y.if-length_past-size.false (omega (arith, past, y.length_past.ensures.length, is_size)))
                    | else-next-radius-via-else-next-radius y ↦ omega (arith, y.if-next-radius.false, c.from.ensures, is_size)
                  ]
                  | inr far ↦ omega arith
                ]);
            first = c.loop-link.invariant.first;
          })
      | else-there+then-there-from+then-length_past-size-2 b ↦
          let size_is : len f ≡ size = omega (arith, past, b.length_past-then-there-from.ensures.length, b.if-length_past-size-2.true) in
          let settled : at t.distance.items w ≢ never = λ none. absurd (b.if-there.false (there ∙ none)) in
          let tight : at t.distance.items w + len f ≡ at t.distance.items v = omega (arith, b.if-there-from.true, there, looking.distance, b.from-else-there.ensures, size_is) in
          let read : b.index-then-length_past-size-2-2.result.now ≡ at t.least.items w = read_at t.least.items b.index-then-length_past-size-2.result w b.index-then-length_past-size-2-2.result.now b.index-then-length_past-size-2-2.ensures b.index-then-length_past-size-2.ensures (omega (arith, inside, q.room.least)) in
          let taken = rw (c.number-to.ensures, b.number-then-length_past-size-2.ensures, read) at b.with_tight-best.ensures in
          let made = b.with_tight-best.result in
          rw (b.tables-is, b.best-is) (record {
            looking = looking_settled graph len size radius few positive even (omega arith) t place v d links rows.row n old.parent old.up old.least looking w f ln is
                made.parent made.up made.least settled (choice_take graph len (at t.distance.items) (at t.least.items) v links rows.row n w f ln is old.parent old.up old.least looking.choice
                made.parent made.up made.least tight taken.lower taken.higher taken.least);
            first = c.loop-link.invariant.first;
          })
      | else-there+else-there-from b ↦
          let settled : at t.distance.items w ≢ never = λ none. absurd (b.if-there.false (there ∙ none)) in
          rw (b.tables-is, b.best-is) (record {
            looking = looking_settled graph len size radius few positive even (omega arith) t place v d links rows.row n old.parent old.up old.least looking w f ln is
                old.parent old.up old.least settled (choice_skip graph len (at t.distance.items) (at t.least.items) v links rows.row n w f ln is old.parent old.up old.least looking.choice
                (λ tight. elim one [
                  | inl is_size ↦ elim b.else-there-from.branch [
                    | else-there-from-via-then-there-from+else-length_past-size-2 y ↦
                        absurd (y.if-length_past-size-2.false (omega (arith, past, y.length_past-then-there-from.ensures.length, is_size)))
                    | else-there-from-via-else-there-from y ↦
                        absurd (y.if-there-from.false (omega (arith, tight, there, looking.distance, b.from-else-there.ensures, is_size)))
                  ]
                  | inr far ↦ absurd (omega (arith, tight, looking.distance, far, d_near))
                ]));
            first = c.loop-link.invariant.first;
          })
    ]

pub returns-clause-looked : goal.returns-clause-looked
returns-clause-looked c =
    let net = c.args.links.now in
    let are = c.requires.links in
    let size = c.args.size in
    let place = c.args.place in
    let v = at c.args.tables.now.order.items place in
    let items = c.around-around.result.links.now in
    let long = length-map items ends_of in
    let v_is = node_read net size c.args.radius place c.args.tables.now c.requires.queue c.requires.place c.index-v.result.now c.index-v.ensures in
    let rows : AreLinksAt net.mesh net.lengths v items = subst (λ (u : ℕ). AreLinksAt net.mesh net.lengths u items) v_is c.around-around.ensures.row in
    looking_ends (graph_of net) (weight_of net) size c.args.radius (links_small net are) (links_positive net are) (links_even net are c.args.radius size c.requires.even) (omega arith)
    c.loop-link.tables place v c.index-d.result.now (map ends_of items) rows.row c.loop-link.link-index c.loop-link.best.parent c.loop-link.best.up c.loop-link.best.least
    (omega (arith, long, c.loop-link-test.false)) c.loop-link.invariant.looking
