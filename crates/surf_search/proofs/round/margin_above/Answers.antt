use Rattle.surf_search.proofs.Common.{take_all, inl, inr, subst, arith, IsSumOfLength, AreLongerOr}
use Rattle.surf_search.proofs.Capped.{longer_more}
use Rattle.surf_search.proofs.round.margin_above.Goals as goal
use Rattle.surf_search.proofs.round.margin_above.Goals.{then-sum-least, else-sum-least}

pub loop-signed-preserved : goal.loop-signed-preserved
loop-signed-preserved c =
    let kept = c.args.choice.now.kept in
    let sum = c.sum_length-sum.result in
    let old = c.loop-signed.margin in
    let i = c.loop-signed.signed-index in
    let is = subst (IsSumOfLength kept sum) c.bits.ensures (c.sum_length-sum.ensures.sum c.if-sum.false) in
    let before = c.loop-signed.invariant.longer c.if-margin-eq0.false in
    let most = c.loop-signed.invariant.most in
    elim c.if-sum-least.branch [
      | then-sum-least w ↦ rw w.margin-is (record {
        most = omega (arith, w.min-margin.ensures, most);
        longer = λ some. longer_more kept c.args.least old w.min-margin.result sum i c.args.found.now c.signed-item.result
            c.loop-signed-test.true c.signed-item.is (omega (arith, w.min-margin.ensures)) before is
            (inr (omega (arith, w.min-margin.ensures, w.saturating_sub.ensures, some)));
      })
      | else-sum-least w ↦ rw w.margin-is (record {
        most = most;
        longer = λ some. longer_more kept c.args.least old old sum i c.args.found.now c.signed-item.result
            c.loop-signed-test.true c.signed-item.is (omega arith) before is (inl (let off = w.if-sum-least.false in omega (arith, off)));
      })
    ]

pub returns-clause-longer : goal.returns-clause-longer
returns-clause-longer c some =
    let at = c.loop-signed-test.false in
    subst (AreLongerOr c.args.choice.now.kept c.args.least c.loop-signed.margin)
    (take_all c.loop-signed.signed-index c.args.found.now (omega (arith, at))) (c.loop-signed.invariant.longer some)
