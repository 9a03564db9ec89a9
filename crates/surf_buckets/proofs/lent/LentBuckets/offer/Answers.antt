use Rattle.std.proofs.Common.{◌<◌, ◌≤◌, ◌≡◌, ◌≢◌, get_or, set, Some, subst, sym, ap, arith}
use Rattle.std.proofs.lemmas.List.{with_items_is}
use Rattle.std.specs.Vec.{with_items}
use Rattle.surf_heap.specs.Entries.{entry_of, lesser}
use Rattle.surf_buckets.specs.Circles.{nothing}
use Rattle.surf_buckets.specs.Lent.{LentTables, waiting, settled, IsFiling}
use Rattle.surf_buckets.proofs.LentViews.{tables, offers_more, offers_waiting, offers_filing, offers_settled, free_here}
use Rattle.surf_buckets.proofs.lent.LentBuckets.offer.Goals as goal

pub returns-then-key-keys-clause-filing : goal.returns-then-key-keys-clause-filing
returns-then-key-keys-clause-filing c =
    let b = c.self.inside in
    let keys = c.args.keys.now in
    let new = c.wait.new.links in
    let view = sym c.self.view_is in
    let places_is = ap (λ (t : LentTables). t.places) c.self.view_is in
    let now_is = ap (λ (t : LentTables). t.now) c.self.view_is in
    let f : IsFiling (tables b.links.items b.places b.now b.last) keys = subst (λ t. IsFiling t keys) view c.requires.filing in
    let lp : c.args.place < b.places = omega (arith, f.room) in
    let bound = subst (λ t. get_or (settled t keys) c.args.place 0 ≢ nothing → get_or (settled t keys) c.args.place 0 ≤ c.args.key) view c.requires.settled in
    let last_in = f.near.last_in in
    let new_is : (with_items b.links new).items ≡ new = with_items_is b.links new (omega arith) in
    let wait = rw c.deref_mut.ensures.value at c.wait.ensures in
    rw new_is (offers_filing b.links.items b.places b.now b.last keys f c.args.place c.args.key lp c.requires.key bound c.if-key-keys.true new c.wait.new.keys c.max-self-inside.result
    wait.waiting (omega arith) wait.circles (omega arith) (omega arith) (omega arith) (omega arith) (omega arith))

pub returns-then-key-keys-clause-waiting : goal.returns-then-key-keys-clause-waiting
returns-then-key-keys-clause-waiting c = λ free.
    let b = c.self.inside in
    let keys = c.args.keys.now in
    let new = c.wait.new.links in
    let view = sym c.self.view_is in
    let f : IsFiling (tables b.links.items b.places b.now b.last) keys = subst (λ t. IsFiling t keys) view c.requires.filing in
    let lp : c.args.place < b.places = omega (arith, f.room) in
    let bound = subst (λ t. get_or (settled t keys) c.args.place 0 ≢ nothing → get_or (settled t keys) c.args.place 0 ≤ c.args.key) view c.requires.settled in
    let new_is : (with_items b.links new).items ≡ new = with_items_is b.links new (omega arith) in
    let wait = rw c.deref_mut.ensures.value at c.wait.ensures in
    let now = offers_waiting b.links.items b.places b.now b.last keys f c.args.place c.args.key lp c.requires.key bound c.if-key-keys.true new c.wait.new.keys c.max-self-inside.result wait.waiting in
    rw new_is (subst (λ t. waiting (tables new b.places b.now c.max-self-inside.result) c.wait.new.keys
    ≡ set (waiting t keys) c.args.place (Some (lesser (entry_of (waiting t keys) c.args.place) c.args.key 0))) c.self.view_is now)

pub returns-then-key-keys-clause-stays : goal.returns-then-key-keys-clause-stays
returns-then-key-keys-clause-stays c = λ some.
    let b = c.self.inside in
    let keys = c.args.keys.now in
    let view = sym c.self.view_is in
    let f : IsFiling (tables b.links.items b.places b.now b.last) keys = subst (λ t. IsFiling t keys) view c.requires.filing in
    let lp : c.args.place < b.places = omega (arith, f.room) in
    let bound = subst (λ t. get_or (settled t keys) c.args.place 0 ≢ nothing → get_or (settled t keys) c.args.place 0 ≤ c.args.key) view c.requires.settled in
    let free = free_here b.links.items b.places b.now b.last keys f c.args.place c.args.key lp c.requires.key bound c.if-key-keys.true in
    absurd (some (subst (λ t. get_or (settled t keys) c.args.place 0 ≡ nothing) c.self.view_is free))

pub returns-then-key-keys-clause-settled : goal.returns-then-key-keys-clause-settled
returns-then-key-keys-clause-settled c =
    let b = c.self.inside in
    let keys = c.args.keys.now in
    let new = c.wait.new.links in
    let view = sym c.self.view_is in
    let f : IsFiling (tables b.links.items b.places b.now b.last) keys = subst (λ t. IsFiling t keys) view c.requires.filing in
    let lp : c.args.place < b.places = omega (arith, f.room) in
    let bound = subst (λ t. get_or (settled t keys) c.args.place 0 ≢ nothing → get_or (settled t keys) c.args.place 0 ≤ c.args.key) view c.requires.settled in
    let new_is : (with_items b.links new).items ≡ new = with_items_is b.links new (omega arith) in
    let wait = rw c.deref_mut.ensures.value at c.wait.ensures in
    let now = offers_settled b.links.items b.places b.now b.last keys f c.args.place c.args.key lp c.requires.key bound c.if-key-keys.true new c.wait.new.keys c.max-self-inside.result wait.waiting wait.settled in
    rw new_is (subst (λ t. settled (tables new b.places b.now c.max-self-inside.result) c.wait.new.keys ≡ settled t keys) c.self.view_is now)

pub returns-else-key-keys-clause-waiting : goal.returns-else-key-keys-clause-waiting
returns-else-key-keys-clause-waiting c = λ free.
    let b = c.self.inside in
    let keys = c.args.keys.now in
    let view = sym c.self.view_is in
    let f : IsFiling (tables b.links.items b.places b.now b.last) keys = subst (λ t. IsFiling t keys) view c.requires.filing in
    let lp : c.args.place < b.places = omega (arith, f.room) in
    let bound = subst (λ t. get_or (settled t keys) c.args.place 0 ≢ nothing → get_or (settled t keys) c.args.place 0 ≤ c.args.key) view c.requires.settled in
    let now = offers_more b.links.items b.places b.now b.last keys f c.args.place c.args.key lp c.requires.key bound (omega (arith, c.if-key-keys.false)) (subst (λ t. get_or (settled t keys) c.args.place 0 ≡ nothing) view free) in
    subst (λ t. waiting t keys ≡ set (waiting t keys) c.args.place (Some (lesser (entry_of (waiting t keys) c.args.place) c.args.key 0))) c.self.view_is now
