use Rattle.surf_slit.proofs.Common.{arith, count_few, cut_behind}
use Rattle.surf_slit.proofs.labelling.count_cut.Goals as goal

pub overflow_add-count : goal.overflow_add-count
overflow_add-count c = omega (arith, c.loop-k.invariant, count_few (cut_behind c.args.edges.now c.args.cut.now) c.loop-k.k)
