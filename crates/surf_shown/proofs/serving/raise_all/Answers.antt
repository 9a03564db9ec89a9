use Rattle.surf_shown.proofs.ServedLaws.{raised_next}
use Rattle.surf_shown.proofs.serving.raise_all.Goals as goal

pub loop-v-preserved : goal.loop-v-preserved
loop-v-preserved c =
    raised_next c.args.vertices.now c.args.end c.loop-v.v-index c.v-item.result c.args.ends.now c.loop-v.ends
    c.raise.new.ends c.loop-v-test.true c.v-item.is c.loop-v.invariant c.raise.ensures.raised
