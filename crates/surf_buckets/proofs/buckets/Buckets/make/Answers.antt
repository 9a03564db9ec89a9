use Rattle.std.proofs.Common.{ap, arith}
use Rattle.surf_buckets.specs.declared.buckets.Node.{Node}
use Rattle.surf_buckets.specs.Nodes.{key_at}
use Rattle.surf_buckets.proofs.Nodes.{lone_circles, buckets_empty}
use Rattle.surf_buckets.proofs.Views.{none_held}
use Rattle.surf_buckets.proofs.buckets.Buckets.make.Goals as goal

pub invariant_of-result : goal.invariant_of-result
invariant_of-result c =
    let nodes = c.in_ok-nodes.nodes.items in
    buckets_empty c.args.places nodes (lone_circles c.args.places nodes c.requires.few c.in_ok-nodes.ensures)
    (λ p l. ap (λ (x : Node). x.key) (c.in_ok-nodes.ensures.1 p (omega arith)))

pub returns-clause-empty : goal.returns-clause-empty
returns-clause-empty c =
    none_held c.args.places (key_at c.in_ok-nodes.nodes.items) (λ p l. ap (λ (x : Node). x.key) (c.in_ok-nodes.ensures.1 p (omega arith)))
