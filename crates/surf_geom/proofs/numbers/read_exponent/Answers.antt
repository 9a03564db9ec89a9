use Rattle.std.proofs.Common.{◌≤◌, sym, arith}
use Rattle.surf_geom.proofs.DigitLaws.{three_digits}
use Rattle.surf_geom.proofs.numbers.read_exponent.Goals as goal

pub overflow_cast-size : goal.overflow_cast-size
overflow_cast-size c =
    let small : c.in_ok-size.field-0 ≤ 999 = three_digits c.split_sign-negative.result.1.now c.in_ok-size.field-0 c.if-digits-gt3.false (sym c.in_ok-size.ensures.number) in
    omega arith

pub returns-then-negative-clause-small : goal.returns-then-negative-clause-small
returns-then-negative-clause-small c = (omega arith, three_digits c.split_sign-negative.result.1.now c.in_ok-size.field-0 c.if-digits-gt3.false (sym c.in_ok-size.ensures.number))

pub returns-else-negative-clause-small : goal.returns-else-negative-clause-small
returns-else-negative-clause-small c = (three_digits c.split_sign-negative.result.1.now c.in_ok-size.field-0 c.if-digits-gt3.false (sym c.in_ok-size.ensures.number), omega arith)
