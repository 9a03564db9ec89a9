use Rattle.std.proofs.Common.{ℕ, ◌≡◌, ap, arith, set, None, eqb, if◌then◌else◌}
use Rattle.std.proofs.lemmas.List.{with_items_is}
use Rattle.std.specs.Vec.{with_items}
use Rattle.surf_buckets.specs.Buckets.{BucketTables, entries_of, IsNearest}
use Rattle.surf_buckets.proofs.Views.{all_none, nearest_entry, entries_without}
use Rattle.surf_buckets.proofs.Nodes.{buckets_taken}
use Rattle.surf_buckets.specs.Circles.{nothing}
use Rattle.surf_buckets.specs.Nodes.{key_at}
use Rattle.surf_buckets.proofs.buckets.Buckets.take_least.Goals as goal

pub invariant_of-self-in-Some : goal.invariant_of-self-in-Some
invariant_of-self-in-Some c =
    let b = c.self.inside in
    let new_is : (with_items b.nodes c.remove.new.nodes).items ≡ c.remove.new.nodes = with_items_is b.nodes c.remove.new.nodes (omega arith) in
    rw new_is (buckets_taken b.places b.nodes.items b.now b.last c.self.invariant c.remove.new.nodes c.remove.ensures.circles
    c.in-Some.place c.in-Some.key (rw c.deref.ensures.value at c.in-Some.ensures) (rw c.deref_mut.ensures.value at c.remove.ensures.key))

pub returns-in-None-clause-taken : goal.returns-in-None-clause-taken
returns-in-None-clause-taken c =
    let b = c.self.inside in
    let is : entries_of b.places (key_at b.nodes.items) ≡ c.args.self.now.entries = ap (λ (t : BucketTables). t.entries) c.self.view_is in
    (rw (← is) (all_none b.places (key_at b.nodes.items) (rw c.deref.ensures.value at c.in-None.ensures)), is)

pub returns-in-Some-clause-taken : goal.returns-in-Some-clause-taken
returns-in-Some-clause-taken c =
    let b = c.self.inside in
    let new = c.remove.new.nodes in
    let p = c.in-Some.place in
    let is : entries_of b.places (key_at b.nodes.items) ≡ c.args.self.now.entries = ap (λ (t : BucketTables). t.entries) c.self.view_is in
    let new_is : (with_items b.nodes new).items ≡ new = with_items_is b.nodes new (omega arith) in
    let keys : (i : ℕ) → key_at new i ≡ (if eqb i p then nothing else key_at b.nodes.items i) = rw c.deref_mut.ensures.value at c.remove.ensures.key in
    let near : IsNearest b.places (key_at b.nodes.items) p c.in-Some.key = rw c.deref.ensures.value at c.in-Some.ensures in
    let gone : entries_of b.places (key_at new) ≡ set (entries_of b.places (key_at b.nodes.items)) p None =
    entries_without b.places (key_at b.nodes.items) (key_at new) p near.within (λ i l. keys i) in (
      rw (← is) (nearest_entry b.places (key_at b.nodes.items) p c.in-Some.key near),
      rw (new_is, ← is) gone,
    )
