use Rattle.surf_z2.proofs.Common.{◌≡◌, ◌<◌, ◌≤◌, ◌^◌, [], ◌+◌, ◌*◌, ◌-◌, true, false, cond, bit_xor, drop, take, ap, sym, ◌∙◌, subst, get_or, arith, has, number}
use Rattle.std.specs.Int.Bits.{xor_comm}
use Rattle.std.proofs.Math.ListN.{drop_of_length-le}
use Rattle.surf_bits.specs.Rows.{left_of, sieve_rows}
use Rattle.surf_bits.proofs.Rows.{left_of_more, left_small, rows-length}
use Rattle.surf_bits.proofs.sieve.left_of.Goals as goal
use Rattle.surf_bits.proofs.sieve.left_of.Goals.{then-bit, else-bit}

pub loop-i-preserved : goal.loop-i-preserved
loop-i-preserved c os =
    let s = c.args.stride in
    let i = c.loop-i.i in
    let left = c.loop-i.left in
    let rows = sieve_rows s c.args.pivots.now c.args.reduced.now os in
    let row = number (take s (drop (i * s) c.args.reduced.now)) in
    let p = get_or c.args.pivots.now i 0 in
    let e : c.if-bit.left ≡ cond (has left p) (bit_xor row left) left =
    elim c.if-bit.branch [
      | then-bit w ↦
          let h : has left p ≡ true = ap (λ n. has n p) (sym c.bits.ensures) ∙ sym c.bit.ensures ∙ w.if-bit.true in
          let m : (i + 1) * s - i * s ≡ s = omega arith in
          let o : w.over-then-bit.result ≡ row = w.over-then-bit.ensures ∙ ap (λ n. number (take n (drop (i * s) c.args.reduced.now))) m in
          rw h (w.left-is ∙ w.add-then-bit.ensures ∙ xor_comm left w.over-then-bit.result ∙ ap (λ n. bit_xor n left) o)
      | else-bit w ↦
          let h : has left p ≡ false = ap (λ n. has n p) (sym c.bits.ensures) ∙ sym c.bit.ensures ∙ w.if-bit.false in
          rw h w.left-is
    ] in
    ap (left_of (drop (i + 1) rows)) e ∙ sym (left_of_more s c.args.pivots.now c.args.reduced.now os i left c.loop-i-test.true) ∙ c.loop-i.invariant os

pub returns-clause-left : goal.returns-clause-left
returns-clause-left c os =
    let s = c.args.stride in
    let rows = sieve_rows s c.args.pivots.now c.args.reduced.now os in
    let past : drop c.loop-i.i rows ≡ [] = drop_of_length-le rows (subst (λ n. n ≤ c.loop-i.i) (sym (rows-length s c.args.pivots.now c.args.reduced.now os)) c.loop-i-test.false) in
    sym (ap (λ rs. left_of rs c.loop-i.left) past) ∙ c.loop-i.invariant os

pub returns-clause-small : goal.returns-clause-small
returns-clause-small c l =
    subst (λ n. n < 2 ^ (64 * c.args.stride)) (sym (returns-clause-left c []))
    (left_small c.args.stride c.args.pivots.now c.args.reduced.now [] c.args.set.now (λ k. omega (arith, c.type_inv.reduced k)) l)
