use Rattle.surf_treecheck.proofs.Common.{rules, ◌≡◌, ◌<◌, ◌∙◌, length, subst, HoldsBelow}
use Rattle.surf_certcheck.proofs.Common.{IsIndependentAt, IsFrameOf}
use Rattle.surf_certcheck.proofs.Bases.{holds_more}
use Rattle.surf_certcheck.proofs.frame.admit_all.Goals as goal

pub returns-then-not-admit-clause-frame : goal.returns-then-not-admit-clause-frame
returns-then-not-admit-clause-frame c =
    let inside : c.loop-place.place < length c.args.case.now.cert.now.cycles = search rules in
    record { below = inside; depends = c.if-not-admit.ensures.admitted; before = c.loop-place.invariant.before }

pub loop-place-preserved : goal.loop-place-preserved
loop-place-preserved c = record {
  count = c.admit.ensures.count;
  width = c.admit.ensures.width ∙ c.loop-place.invariant.width;
  before = holds_more c.loop-place.place (IsIndependentAt c.args.case.now.mesh.now c.args.case.now.cert.now) c.loop-place.invariant.before
      c.if-not-admit.ensures.admitted.0;
  frame = c.if-not-admit.ensures.admitted.1;
}

pub returns-clause-frame : goal.returns-clause-frame
returns-clause-frame c =
    let mesh = c.args.case.now.mesh.now in
    let cert = c.args.case.now.cert.now in
    let end : c.loop-place.place ≡ length cert.cycles = search rules in (
      subst (λ n. HoldsBelow n (IsIndependentAt mesh cert)) end c.loop-place.invariant.before,
      subst (λ n. IsFrameOf mesh c.args.case.now.lengths.now cert n c.loop-place.frame.signs c.loop-place.frame.weights.items) end
          c.loop-place.invariant.frame,
    )
