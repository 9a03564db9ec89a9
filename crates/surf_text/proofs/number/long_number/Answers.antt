use Rattle.std.proofs.Common.{◌≡◌, ℕ, length, drop, not, ap, refl, sym, ◌∙◌, subst, arith}
use Rattle.surf_text.specs.Text.{front_digits}
use Rattle.surf_text.proofs.Digits.{number_on}
use Rattle.surf_text.proofs.Short.{other_here, digit_later, digits_at_end, short_more, short_passes, short_ends}
use Rattle.surf_text.proofs.number.long_number.Goals as goal

pub returns-then-not-is_ascii_digit : goal.returns-then-not-is_ascii_digit
returns-then-not-is_ascii_digit c =
    let xs = c.args.bytes.now in
    let l = c.loop-i in
    let other = ap not (sym c.is_ascii_digit.ensures.value ∙ c.if-not-is_ascii_digit.true) in
    record { number = short_ends xs l.i l.number l.invariant.so_far (sym (other_here xs l.i l.invariant.within other)) l.invariant.fits _ refl }

pub returns-then-number : goal.returns-then-number
returns-then-number c =
    let xs = c.args.bytes.now in
    let l = c.loop-i in
    let digit = sym c.is_ascii_digit.ensures.value ∙ c.if-not-is_ascii_digit.false in
    record { number = short_passes xs l.i l.number l.invariant.so_far (digit_later xs l.i l.invariant.within c.loop-i-test.true digit) digit (omega arith) }

pub loop-i-preserved : goal.loop-i-preserved
loop-i-preserved c =
    let xs = c.args.bytes.now in
    let l = c.loop-i in
    let digit = sym c.is_ascii_digit.ensures.value ∙ c.if-not-is_ascii_digit.false in
    let later = digit_later xs l.i l.invariant.within c.loop-i-test.true digit in
    record {
      fits = omega arith;
      within = omega arith;
      so_far = short_more xs l.i l.number l.invariant.so_far later digit;
    }

pub returns : goal.returns
returns c =
    let xs = c.args.bytes.now in
    let l = c.loop-i in
    let end = digits_at_end xs l.i l.invariant.within c.loop-i-test.false in
    let so_far = subst (λ (k : ℕ). number_on l.number (drop k (front_digits xs)) ≡ number_on 0 (front_digits xs)) end.1 l.invariant.so_far in
    record { number = short_ends xs (length xs) l.number so_far (sym end.1 ∙ end.0) l.invariant.fits _ refl }
