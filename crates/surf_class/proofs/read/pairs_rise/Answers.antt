use Rattle.surf_surfaces.proofs.Common.{◌≡◌, ◌+◌, ◌-◌, get_or, false, sym, ap, ◌∙◌, subst, ℕ, arith, get_or_default, pair_lt}
use Rattle.surf_class.proofs.Lists.{rising_all, rising_not}
use Rattle.surf_class.proofs.read.pairs_rise.Goals as goal

pub returns-then-not-is_below : goal.returns-then-not-is_below
returns-then-not-is_below c =
    let ps = c.args.pairs.now in
    let i = c.loop-i.i in
    let back : i ≡ i - 1 + 1 = omega (arith, c.loop-i.auto.i) in
    let near = c.index-pairs-i.is ∙ get_or_default ps (i - 1) c.index-pairs-i.result (0, 0) (omega (arith, c.loop-i-test.true)) in
    let far = c.index-pairs-i-in-loop-i.is ∙ get_or_default ps i c.index-pairs-i-in-loop-i.result (0, 0) c.loop-i-test.true in
    let off : pair_lt (get_or ps (i - 1) (0, 0)) (get_or ps i (0, 0)) ≡ false =
    sym (c.if-not-is_below.ensures.below ∙ ap (λ p. pair_lt p c.index-pairs-i-in-loop-i.result) near ∙ ap (pair_lt (get_or ps (i - 1) (0, 0))) far) in
    record {
      rising = sym (rising_not pair_lt ps (0, 0) (i - 1) (omega (arith, back, c.loop-i-test.true))
          (subst (λ (k : ℕ). pair_lt (get_or ps (i - 1) (0, 0)) (get_or ps k (0, 0)) ≡ false) back off));
    }

pub returns : goal.returns
returns c = record {
  rising = sym (rising_all pair_lt c.args.pairs.now (0, 0) (λ k l. c.loop-i.invariant k (omega (arith, l, c.loop-i-test.false))));
}
