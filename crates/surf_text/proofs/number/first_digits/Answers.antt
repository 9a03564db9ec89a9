use Rattle.std.proofs.Common.{◌≤◌, length, not, sym, ◌∙◌, arith}
use Rattle.std.specs.List.{position_or_len}
use Rattle.std.proofs.lemmas.List.Sums.{prefix_len-le-length}
use Rattle.std.proofs.Math.Nat.{min-eq_right}
use Rattle.surf_text.specs.Text.{is_no_digit}
use Rattle.surf_text.proofs.number.first_digits.Goals as goal

pub returns-then-bytes-lt-FEW-clause-digits : goal.returns-then-bytes-lt-FEW-clause-digits
returns-then-bytes-lt-FEW-clause-digits c =
    let xs = c.args.bytes.now in
    let most : position_or_len is_no_digit xs ≤ length xs = prefix_len-le-length (λ b. not (is_no_digit b)) xs in
    c.few_digits.ensures.digits ∙ min-eq_right most ∙ sym (min-eq_right (omega (arith, most, c.if-bytes-lt-FEW.true)))
