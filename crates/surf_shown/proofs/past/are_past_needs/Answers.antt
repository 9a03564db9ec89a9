use Rattle.surf_surfaces.proofs.Common.{arith, refl}
use Rattle.surf_shown.proofs.PastLoops.{past_all, past_next}
use Rattle.surf_shown.proofs.past.are_past_needs.Goals as goal

pub loop-signed-preserved : goal.loop-signed-preserved
loop-signed-preserved c =
    past_next c.args.claim.now.loops.now c.args.found.now c.args.margin c.args.from c.args.to c.loop-signed.signed-index
    c.signed-item.result c.loop-signed-test.true c.signed-item.is c.loop-signed.invariant
    (c.if-not-is_past_needs.ensures.past refl)

pub returns : goal.returns
returns c = record {
  past = λ on i low high.
      (let at = c.loop-signed-test.false in
      past_all c.args.claim.now.loops.now c.args.found.now c.args.margin c.args.from c.args.to c.loop-signed.signed-index i
      (omega (arith, at)) c.loop-signed.invariant low high);
}
