use Rattle.std.proofs.Common.{sym, arith}
use Rattle.surf_text.proofs.Short.{few_end, few_so_far, short_ends}
use Rattle.surf_text.proofs.number.front_number.Goals as goal

pub returns-then-digits-lt-FEW : goal.returns-then-digits-lt-FEW
returns-then-digits-lt-FEW c =
    let xs = c.args.bytes.now in
    let n = c.first_digits-number.result.0 in
    let d = c.first_digits-number.result.1 in
    let end = few_end xs d c.first_digits-number.ensures.digits c.if-digits-lt-FEW.true in
    let so_far = few_so_far xs d n end c.first_digits-number.ensures.number (omega arith) in
    record { number = short_ends xs d n so_far (sym end) (omega arith) _ c.counted.ensures.counted }
