use Rattle.surf_surfaces.proofs.Common.{arith, count_few}
use Rattle.surf_cutter.specs.Trimming.{is_cut}
use Rattle.surf_cutter.proofs.trimming.count_cut.Goals as goal

pub overflow_add-count : goal.overflow_add-count
overflow_add-count c = omega (arith, c.loop-e.invariant, count_few (is_cut c.args.cut.now) c.loop-e.e)
