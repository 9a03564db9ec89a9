use Rattle.surf_surfaces.proofs.Common.{◌≡◌, ◌+◌, ◌-◌, nat_lt, get_or, false, sym, subst, ℕ, arith, le-ltb}
use Rattle.surf_class.proofs.Lists.{rising_all, rising_not}
use Rattle.surf_class.proofs.read.rise.Goals as goal

pub returns-then-numbers-i : goal.returns-then-numbers-i
returns-then-numbers-i c =
    let ns = c.args.numbers.now in
    let i = c.loop-i.i in
    let back : i ≡ i - 1 + 1 = omega (arith, c.loop-i.auto.i) in
    let off : nat_lt (get_or ns (i - 1) 0) (get_or ns i 0) ≡ false = le-ltb (get_or ns (i - 1) 0) (get_or ns i 0) c.if-numbers-i.true in
    record {
      rising = sym (rising_not nat_lt ns 0 (i - 1) (omega (arith, back, c.loop-i-test.true))
          (subst (λ (k : ℕ). nat_lt (get_or ns (i - 1) 0) (get_or ns k 0) ≡ false) back off));
    }

pub returns : goal.returns
returns c = record {
  rising = sym (rising_all nat_lt c.args.numbers.now 0 (λ k l. c.loop-i.invariant k (omega (arith, l, c.loop-i-test.false))));
}
