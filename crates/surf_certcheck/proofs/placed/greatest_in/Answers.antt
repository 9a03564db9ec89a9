use Rattle.surf_treecheck.proofs.Common.{ℕ, ◌≡◌, ◌<◌, ◌^◌, ◌+◌, ◌-◌, ◌*◌, get_or, sym, subst, arith, w64, leading_zeros, number, number_zero, leading_top}
use Rattle.surf_certcheck.proofs.Common.{IsGreatestIn}
use Rattle.surf_certcheck.proofs.Greatest.{words_greatest}
use Rattle.surf_certcheck.proofs.placed.greatest_in.Goals as goal

pub returns-then-word-ne0 : goal.returns-then-word-ne0
returns-then-word-ne0 c =
    let ws = c.args.words.now in
    let i : ℕ = c.loop-i.i - 1 in
    let w = get_or ws i 0 in
    let some : 0 < c.loop-i.i = c.loop-i-test.true in
    let fits : (k : ℕ) → get_or ws k 0 < 2 ^ 64 = λ k. omega (arith, c.type_inv.words k) in
    let pos : 0 < w = omega (arith, c.if-word-ne0.true) in
    let (j, zeros, low, high) = leading_top 64 w pos (fits i) in
    let e : 64 * i + 63 - leading_zeros w64 w ≡ 64 * i + j = omega (arith, zeros) in
    record {
      greatest = subst (λ k. IsGreatestIn (number ws) k) (sym e)
          (words_greatest ws i j fits (λ k m. c.loop-i.invariant k (omega (arith, m, some))) low high (omega (arith, zeros)));
    }

pub returns : goal.returns
returns c = record { greatest = number_zero c.args.words.now (λ k l. c.loop-i.invariant k (omega (arith, c.loop-i-test.false))) }
