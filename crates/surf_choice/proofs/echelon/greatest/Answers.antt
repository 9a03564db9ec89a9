use Rattle.surf_choice.proofs.Common.{ℕ, ◌≡◌, ◌<◌, ◌^◌, ◌+◌, ◌-◌, ◌*◌, get_or, length, sym, subst, arith, w64, leading_zeros, number, number_zero, IsGreatest}
use Rattle.surf_choice.proofs.Greatest.{number_greatest, word_greatest}
use Rattle.surf_choice.proofs.echelon.greatest.Goals as goal

pub returns-then-word-ne0 : goal.returns-then-word-ne0
returns-then-word-ne0 c =
    let ws = c.args.words.now in
    let i : ℕ = c.loop-i.i - 1 in
    let w = get_or ws i 0 in
    let some : 0 < c.loop-i.i = c.loop-i-test.true in
    let fits : (k : ℕ) → get_or ws k 0 < 2 ^ 64 = λ k. omega (arith, c.type_inv.words k) in
    let pos : 0 < w = omega (arith, c.if-word-ne0.true) in
    let t = word_greatest w pos (fits i) in
    let j = t.0 in
    let e : 64 * i + 63 - leading_zeros w64 w ≡ 64 * i + j = let z = t.1 in omega (arith, z) in
    let inside : i < length ws = omega (arith, c.loop-i.auto.i, some) in
    record {
      greatest = subst (λ k. IsGreatest k (number ws)) (sym e)
          (number_greatest ws i j inside fits (λ k m. c.loop-i.invariant k (omega (arith, m, some))) t.2);
    }

pub returns : goal.returns
returns c = record { greatest = number_zero c.args.words.now (λ k l. c.loop-i.invariant k (omega (arith, c.loop-i-test.false))) }
