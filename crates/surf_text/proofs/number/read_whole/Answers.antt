use Rattle.std.proofs.Common.{◌≡◌, ◌+◌, ◌-◌, ◌*◌, ℕ, drop, get_or, sym, ◌∙◌, ap, refl, arith}
use Rattle.surf_text.proofs.Digits.{number_on, whole-is, digit_more, number_all, no_whole}
use Rattle.surf_text.proofs.number.read_whole.Goals as goal

pub returns-in_err-tens : goal.returns-in_err-tens
returns-in_err-tens c =
    let digit = sym c.is_ascii_digit.ensures.value ∙ c.if-not-is_ascii_digit.false in
    let none = no_whole c.args.token.now c.loop-b.b-index c.loop-b.number (sym c.if-is_empty.false ∙ c.is_empty.ensures) c.loop-b-test.true c.loop-b.invariant.so_far digit (omega (arith, c.in_err-tens.ensures)) in
    record { number = c.from_residual.ensures ∙ none }

pub returns-in_err-number : goal.returns-in_err-number
returns-in_err-number c =
    let digit = sym c.is_ascii_digit.ensures.value ∙ c.if-not-is_ascii_digit.false in
    let none = no_whole c.args.token.now c.loop-b.b-index c.loop-b.number (sym c.if-is_empty.false ∙ c.is_empty.ensures) c.loop-b-test.true c.loop-b.invariant.so_far digit (omega (arith, c.in_ok-tens.ensures.1, c.in_err-number.ensures)) in
    record { number = c.from_residual-in_err-number.ensures ∙ none }

pub loop-b-preserved : goal.loop-b-preserved
loop-b-preserved c =
    let token = c.args.token.now in
    let i = c.loop-b.b-index in
    let digit = sym c.is_ascii_digit.ensures.value ∙ c.if-not-is_ascii_digit.false in
    let next : c.in_ok-number.number ≡ c.loop-b.number * 10 + (get_or token i 0 - 48) = omega (arith, c.in_ok-tens.ensures.1, c.in_ok-number.ensures.1) in
    record {
      fits = omega arith;
      so_far = ap (λ (n : ℕ). number_on n (drop (i + 1) token)) next ∙ sym (digit_more token i c.loop-b.number (get_or token i 0) c.loop-b-test.true refl digit) ∙ c.loop-b.invariant.so_far;
    }

pub returns : goal.returns
returns c =
    record { number = sym (number_all c.args.token.now c.loop-b.b-index c.loop-b.number c.loop-b-test.false c.loop-b.invariant.fits) ∙ c.loop-b.invariant.so_far ∙ whole-is c.args.token.now (sym c.if-is_empty.false ∙ c.is_empty.ensures) }
