use Rattle.std.proofs.Common.{arith}
use Rattle.surf_buckets.proofs.Lending.{out_circles, out_waiting, out_settled}
use Rattle.surf_buckets.proofs.lent.settle.Goals as goal

pub returns-clause-circles : goal.returns-clause-circles
returns-clause-circles c = λ keys circles.
    out_circles c.args.places c.args.links.now keys circles c.args.place c.requires.place c.take_out.new.nodes (omega arith) c.take_out.ensures.taken_out

pub returns-clause-waiting : goal.returns-clause-waiting
returns-clause-waiting c = λ keys circles.
    out_waiting c.args.places c.args.links.now keys circles c.args.place c.requires.place c.take_out.new.nodes (omega arith) c.take_out.ensures.taken_out

pub returns-clause-settled : goal.returns-clause-settled
returns-clause-settled c = λ keys circles.
    out_settled c.args.places c.args.links.now keys circles c.args.place c.requires.place c.take_out.new.nodes (omega arith) c.take_out.ensures.taken_out
