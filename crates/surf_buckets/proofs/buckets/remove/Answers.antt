use Rattle.std.proofs.Common.{refl, arith}
use Rattle.surf_buckets.proofs.Nodes.{remove_circles}
use Rattle.surf_buckets.proofs.buckets.remove.Goals as goal

pub returns-clause-circles : goal.returns-clause-circles
returns-clause-circles c =
    remove_circles c.args.places c.args.nodes.now c.take_out.new.nodes c.set_key.new.nodes c.requires.circles c.args.place c.requires.place (omega arith)
    c.set_key.ensures.next c.set_key.ensures.prev _ c.take_out.ensures.key c.set_key.ensures.key refl c.take_out.ensures.taken_out
