use Rattle.surf_slit.proofs.Common.{◌≡◌, ◌<◌, length, get_or, ◌∙◌, arith, get_or_default, count_few, cut_behind}
use Rattle.surf_slit.proofs.labelling.label_runs.Goals as goal
use Rattle.surf_slit.proofs.labelling.label_runs.Goals.{then-run-cuts, else-run-cuts}

pub overflow_add-first : goal.overflow_add-first
overflow_add-first c =
    let few = count_few (cut_behind c.args.edges.now c.args.cut.now) c.loop-k.k in
    elim c.if-run-cuts.branch [
      | then-run-cuts w ↦ omega (arith, w.shown-is)
      | else-run-cuts w ↦ omega (arith, w.shown-is, few, c.loop-k.invariant.counted)
    ]

pub offset_bounds-labels-index : goal.offset_bounds-labels-index
offset_bounds-labels-index c =
    let k = c.loop-k.k in
    let lt : k < length c.args.ring.now = omega arith in
    let e : c.index-ring-k.result ≡ get_or c.args.ring.now k 0 = c.index-ring-k.is ∙ get_or_default c.args.ring.now k c.index-ring-k.result 0 lt in
    omega (arith, c.requires.sides k lt, e, c.index.ensures)

pub overflow_add-run : goal.overflow_add-run
overflow_add-run c = omega (arith, c.loop-k.invariant.counted, count_few (cut_behind c.args.edges.now c.args.cut.now) c.loop-k.k)
