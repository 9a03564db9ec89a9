use Rattle.std.proofs.Common.{arith}
use Rattle.surf_buckets.proofs.Nodes.{insert_circles}
use Rattle.surf_buckets.proofs.buckets.insert.Goals as goal

pub returns-clause-circles : goal.returns-clause-circles
returns-clause-circles c =
    insert_circles c.args.places c.args.nodes.now c.put_behind.new.nodes c.set_key.new.nodes c.requires.circles c.args.place c.requires.place (omega arith)
    c.set_key.ensures.next c.set_key.ensures.prev c.args.key c.put_behind.ensures.key c.set_key.ensures.key c.bucket_of.result
    c.requires.absent c.requires.key c.bucket_of.ensures.bucket c.put_behind.ensures.put
