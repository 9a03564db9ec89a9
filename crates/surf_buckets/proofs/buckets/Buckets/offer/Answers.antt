use Rattle.std.proofs.Common.{◌≡◌, ◌<◌, ◌∙◌, length, get_or, ap, arith}
use Rattle.std.proofs.lemmas.List.{with_items_is, get_or_default}
use Rattle.std.specs.Vec.{with_items}
use Rattle.surf_buckets.specs.Buckets.{BucketTables, entries_of}
use Rattle.surf_buckets.specs.Nodes.{blank, key_at}
use Rattle.surf_buckets.proofs.Views.{entries_length, offered_less, offered_more}
use Rattle.surf_buckets.proofs.Nodes.{buckets_offered}
use Rattle.surf_buckets.proofs.buckets.Buckets.offer.Goals as goal

pub index-requires : goal.index-requires
index-requires c =
    let b = c.self.inside in
    omega (arith, entries_length b.places (key_at b.nodes.items), ap (λ (t : BucketTables). length t.entries) c.self.view_is, c.self.invariant.circles.all)

pub lower-requires-clause-place : goal.lower-requires-clause-place
lower-requires-clause-place c =
    let b = c.self.inside in
    omega (arith, entries_length b.places (key_at b.nodes.items), ap (λ (t : BucketTables). length t.entries) c.self.view_is)

pub invariant_of-self : goal.invariant_of-self
invariant_of-self c =
    let b = c.self.inside in
    let new = c.lower.new.nodes in
    let now_is = ap (λ (t : BucketTables). t.now) c.self.view_is in
    let last_in = c.self.invariant.near.last_in in
    let new_is : (with_items b.nodes new).items ≡ new = with_items_is b.nodes new (omega arith) in
    rw new_is (buckets_offered b.places b.nodes.items b.now b.last c.self.invariant new c.lower.ensures.circles c.args.place c.args.key (rw c.deref_mut.ensures.value at c.lower.ensures.key)
    (omega arith) (omega arith) c.max-self-inside.result (omega arith) (omega arith) (omega arith))

pub returns-then-key-index-clause-entry : goal.returns-then-key-index-clause-entry
returns-then-key-index-clause-entry c =
    let b = c.self.inside in
    let new = c.lower.new.nodes in
    let is : entries_of b.places (key_at b.nodes.items) ≡ c.args.self.now.entries = ap (λ (t : BucketTables). t.entries) c.self.view_is in
    let in_places : c.args.place < b.places = omega (arith, entries_length b.places (key_at b.nodes.items), ap (λ (t : BucketTables). length t.entries) c.self.view_is) in
    let new_is : (with_items b.nodes new).items ≡ new = with_items_is b.nodes new (omega arith) in
    let read : c.index.result.now ≡ get_or b.nodes.items c.args.place blank = c.index.ensures ∙ get_or_default b.nodes.items c.args.place c.index.result.now blank (omega (arith, c.self.invariant.circles.all)) in
    rw (new_is, ← is) (offered_less b.places (key_at b.nodes.items) c.args.place c.args.key in_places (key_at new) (rw read at c.if-key-index.true) c.requires.key (λ i l. (rw c.deref_mut.ensures.value at c.lower.ensures.key) i))

pub returns-else-key-index-clause-entry : goal.returns-else-key-index-clause-entry
returns-else-key-index-clause-entry c =
    let b = c.self.inside in
    let is : entries_of b.places (key_at b.nodes.items) ≡ c.args.self.now.entries = ap (λ (t : BucketTables). t.entries) c.self.view_is in
    let in_places : c.args.place < b.places = omega (arith, entries_length b.places (key_at b.nodes.items), ap (λ (t : BucketTables). length t.entries) c.self.view_is) in
    let read : c.index.result.now ≡ get_or b.nodes.items c.args.place blank = c.index.ensures ∙ get_or_default b.nodes.items c.args.place c.index.result.now blank (omega (arith, c.self.invariant.circles.all)) in
    rw (← is) (offered_more b.places (key_at b.nodes.items) c.args.place c.args.key in_places (rw read at c.if-key-index.false) c.requires.key)
