use Rattle.std.proofs.Common.{◌≡◌, ◌∙◌, ap, sym, arith, length, replicate, None}
use Rattle.std.proofs.lemmas.List.{with_items_is}
use Rattle.std.specs.Vec.{with_items}
use Rattle.surf_buckets.specs.Buckets.{BucketTables}
use Rattle.surf_buckets.specs.Nodes.{key_at}
use Rattle.surf_buckets.proofs.Views.{entries_length, none_held}
use Rattle.surf_buckets.proofs.Nodes.{buckets_empty}
use Rattle.surf_buckets.proofs.buckets.Buckets.clear.Goals as goal

pub invariant_of-self : goal.invariant_of-self
invariant_of-self c =
    let b = c.self.inside in
    let new_is : (with_items b.nodes c.drain.new.nodes).items ≡ c.drain.new.nodes = with_items_is b.nodes c.drain.new.nodes (omega arith) in
    rw new_is (buckets_empty b.places c.drain.new.nodes c.drain.ensures.circles c.drain.ensures.none)

pub returns-clause-empty : goal.returns-clause-empty
returns-clause-empty c =
    let b = c.self.inside in
    let long : b.places ≡ length c.args.self.now.entries = sym (entries_length b.places (key_at b.nodes.items)) ∙ ap (λ (t : BucketTables). length t.entries) c.self.view_is in
    let new_is : (with_items b.nodes c.drain.new.nodes).items ≡ c.drain.new.nodes = with_items_is b.nodes c.drain.new.nodes (omega arith) in
    rw new_is (none_held b.places (key_at c.drain.new.nodes) c.drain.ensures.none ∙ ap (λ n. replicate n None) long)
