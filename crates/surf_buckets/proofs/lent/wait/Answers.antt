use Rattle.std.proofs.Common.{arith}
use Rattle.surf_buckets.proofs.Lending.{put_circles, put_waiting, put_settled}
use Rattle.surf_buckets.proofs.lent.wait.Goals as goal

pub returns-clause-circles : goal.returns-clause-circles
returns-clause-circles c =
    put_circles c.args.places c.args.links.now c.args.keys.now c.requires.circles c.args.place c.requires.place c.take_out.new.nodes (omega arith) c.take_out.ensures.taken_out
    c.requires.room c.args.key c.bucket_of.result c.requires.key c.bucket_of.ensures.bucket c.put_behind.new.nodes (omega arith) c.put_behind.ensures.put

pub returns-clause-waiting : goal.returns-clause-waiting
returns-clause-waiting c =
    put_waiting c.args.places c.args.links.now c.args.keys.now c.requires.circles c.args.place c.requires.place c.take_out.new.nodes (omega arith) c.take_out.ensures.taken_out
    c.requires.room c.args.key c.bucket_of.result c.requires.key c.bucket_of.ensures.bucket c.put_behind.new.nodes (omega arith) c.put_behind.ensures.put

pub returns-clause-settled : goal.returns-clause-settled
returns-clause-settled c =
    put_settled c.args.places c.args.links.now c.args.keys.now c.requires.circles c.args.place c.requires.place c.take_out.new.nodes (omega arith) c.take_out.ensures.taken_out
    c.requires.room c.args.key c.bucket_of.result c.requires.key c.bucket_of.ensures.bucket c.put_behind.new.nodes (omega arith) c.put_behind.ensures.put
