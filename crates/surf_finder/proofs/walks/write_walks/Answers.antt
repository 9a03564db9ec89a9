use Rattle.surf_finder.proofs.Common.{◌≡◌, length, get_or, refl, sym, ◌∙◌, subst, arith, eqb-true, eqb-false, get_or_default, AreWritten, IsLoopWalk}
use Rattle.surf_finder.proofs.Walked.{written_first, written_more, written_past}
use Rattle.surf_finder.proofs.walks.write_walks.Goals as goal
use Rattle.surf_finder.proofs.walks.write_walks.Goals.{then-eq+in_ok-walk, else-eq}

pub loop-k-init : goal.loop-k-init
loop-k-init c = written_first c.args.mesh.now c.args.links.now.lengths c.args.kept.now c.args.desk.now.base c.args.walks.now

pub loop-k-preserved : goal.loop-k-preserved
loop-k-preserved c =
    let mesh = c.args.mesh.now in
    let lengths = c.args.links.now.lengths in
    let kept = c.args.kept.now in
    let base = c.args.desk.now.base in
    let old = c.args.walks.now in
    let s = get_or kept c.loop-k.k c.index-kept-k.result in
    let is : s ≡ get_or kept c.loop-k.k s = get_or_default kept c.loop-k.k c.index-kept-k.result s c.loop-k-test.true in
    elim c.if-eq.branch [
      | then-eq+in_ok-walk w ↦
          let at : s.candidate.base ≡ base = eqb-true s.candidate.base c.base.result (sym c.eq.ensures ∙ w.if-eq.true) ∙ c.base.ensures.base in
          rw w.walks-is (written_more mesh lengths kept base old c.loop-k.k s c.loop-k.walks _ w.in_ok-walk.walk c.loop-k.invariant c.requires.count
          c.loop-k-test.true is at (subst (λ b. IsLoopWalk mesh lengths b s.candidate.edge w.in_ok-walk.walk) (sym at) w.in_ok-walk.ensures.walk) refl)
      | else-eq w ↦
          rw w.walks-is (written_past mesh lengths kept base old c.loop-k.k s c.loop-k.walks c.loop-k.invariant c.loop-k-test.true is
          (λ at. eqb-false s.candidate.base c.base.result (sym c.eq.ensures ∙ w.if-eq.false) (at ∙ sym c.base.ensures.base)))
    ]

pub returns : goal.returns
returns c =
    let end : c.loop-k.k ≡ length c.args.kept.now = omega (arith, c.loop-k-test.false, c.loop-k.auto.k-end) in
    record {
      written = subst (λ n. AreWritten c.args.mesh.now c.args.links.now.lengths c.args.kept.now c.args.desk.now.base n c.args.walks.now c.loop-k.walks) end c.loop-k.invariant;
      count = c.loop-k.invariant.count;
    }
