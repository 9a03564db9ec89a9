use Rattle.std.proofs.Common.{◌<◌, length, get_or, not, sym, ◌∙◌, ap, arith}
use Rattle.std.proofs.Math.Nat.{min-eq_right}
use Rattle.surf_text.proofs.Digits.{digit_high, digit_fits, few_fit, value_more}
use Rattle.surf_text.proofs.Short.{other_here, digit_later}
use Rattle.surf_text.proofs.number.few_digits.Goals as goal

pub returns-then-not-is_ascii_digit-clause-digits : goal.returns-then-not-is_ascii_digit-clause-digits
returns-then-not-is_ascii_digit-clause-digits c =
    let l = c.loop-i in
    let xs = c.args.bytes.now in
    let other = ap not (sym c.is_ascii_digit.ensures.value ∙ c.if-not-is_ascii_digit.true) in
    let end = other_here xs l.i l.invariant.within other in
    sym (min-eq_right (omega (arith, end, c.loop-i-test.true)) ∙ end)

pub overflow_mul-number : goal.overflow_mul-number
overflow_mul-number c = omega (arith, few_fit c.loop-i.number c.loop-i.i (omega (arith, c.loop-i-test.true, c.requires.few)) c.loop-i.invariant.fits)

pub overflow_add-number : goal.overflow_add-number
overflow_add-number c =
    let digit = sym c.is_ascii_digit.ensures.value ∙ c.if-not-is_ascii_digit.false in
    omega (arith, few_fit c.loop-i.number c.loop-i.i (omega (arith, c.loop-i-test.true, c.requires.few)) c.loop-i.invariant.fits, digit_high (get_or c.args.bytes.now c.loop-i.i 0) digit)

pub loop-i-preserved : goal.loop-i-preserved
loop-i-preserved c =
    let l = c.loop-i in
    let xs = c.args.bytes.now in
    let digit = sym c.is_ascii_digit.ensures.value ∙ c.if-not-is_ascii_digit.false in
    let inside : l.i < length xs = omega (arith, c.loop-i-test.true, c.requires.within) in
    record {
      fits = digit_fits l.number (get_or xs l.i 0) l.i l.invariant.fits digit;
      within = omega (arith, digit_later xs l.i l.invariant.within inside digit);
      so_far = value_more xs l.i l.number inside l.invariant.so_far;
    }
