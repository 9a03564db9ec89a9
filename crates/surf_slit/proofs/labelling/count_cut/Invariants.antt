use Rattle.surf_slit.proofs.Common.{◌≡◌, count_below, cut_behind}
use Rattle.surf_slit.proofs.labelling.count_cut.Given as goal

abbrev pub invariant-loop-k : goal.invariant-loop-k
invariant-loop-k l = l.count ≡ count_below l.k (cut_behind l.edges l.cut)
