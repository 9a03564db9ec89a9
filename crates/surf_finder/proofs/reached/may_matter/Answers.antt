use Rattle.surf_finder.proofs.Common.{◌≡◌, ◌<◌, length, slice_index, sym, ap, ◌∙◌, arith, eqb-true, reached_at}
use Rattle.surf_finder.proofs.Passed.{not_off, null_loop}
use Rattle.surf_finder.proofs.reached.may_matter.Goals as goal
use Rattle.surf_finder.proofs.reached.may_matter.Goals.{then-kind-eq0, else-kind-eq0}

pub returns-after-kind-eq0-clause-off : goal.returns-after-kind-eq0-clause-off
returns-after-kind-eq0-clause-off c = λ off limit on.
    let x = reached_at c.args.reached.now in
    let e = c.args.rise.now.edge in
    let are = c.requires.searched.kinds in
    let e_in : e < length x.signs.signatures = let l = c.requires.rise.edge_in in let n = c.requires.searched.ready.signs in omega (arith, l, n) in
    let alike = not_off c.if-kind-eq0.result off in
    elim c.if-kind-eq0.branch [
      | then-kind-eq0 w ↦
          let plain : slice_index c.args.reached.now.kinds.now.kinds e ≡ 0 = omega (arith, w.if-kind-eq0.true, c.kind.ensures.kind) in
          let none : slice_index x.signs.signatures e ≡ 0 =
          sym (are.same e e_in) ∙ ap (slice_index c.args.reached.now.kinds.now.signatures) plain ∙ are.none in
          null_loop x c.args.rise.now c.requires.rise (w.are_alike.ensures.alike (sym w.result-is ∙ alike)) none limit on
      | else-kind-eq0 w ↦
          let zero : c.kind.result ≡ 0 = eqb-true c.kind.result 0 (sym w.result-is ∙ alike) in
          absurd (omega (arith, zero, w.if-kind-eq0.false))
    ]
