use Rattle.surf_surfaces.proofs.Common.{sym, ap, ◌∙◌, ◌&&◌, list_all, is_ascii_digit}
use Rattle.surf_geom.proofs.DigitLaws.{some_front}
use Rattle.surf_geom.proofs.numbers.are_mantissa.Goals as goal

pub returns-then-all_digits : goal.returns-then-all_digits
returns-then-all_digits c =
    let xs = c.args.front.now in
    let ys = c.args.behind.now in
    record { digits = c.all_digits-then-all_digits.ensures.digits ∙ ap (λ b. b && list_all is_ascii_digit ys) (sym c.if-all_digits.true ∙ c.all_digits.ensures.digits) ∙ sym (some_front xs ys (sym c.if-is_empty.false ∙ c.is_empty.ensures)) }
