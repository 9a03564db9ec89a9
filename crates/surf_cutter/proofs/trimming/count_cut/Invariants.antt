use Rattle.surf_surfaces.proofs.Common.{◌≡◌, count_below}
use Rattle.surf_cutter.specs.Trimming.{is_cut}
use Rattle.surf_cutter.proofs.trimming.count_cut.Given as goal

abbrev pub invariant-loop-e : goal.invariant-loop-e
invariant-loop-e l = l.count ≡ count_below l.e (is_cut l.cut)
