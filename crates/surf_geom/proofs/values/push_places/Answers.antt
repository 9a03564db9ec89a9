use Rattle.std.proofs.Common.{◌≡◌, None, sym, ◌∙◌}
use Rattle.surf_geom.specs.Digits.{pushed, pushed_to, in_range}
use Rattle.surf_geom.proofs.DigitLaws.{cut_digits}
use Rattle.surf_geom.proofs.Quotients.{none_past, out_is, to_least_many}
use Rattle.surf_geom.proofs.values.push_places.Goals as goal

pub push_digits-requires-clause-digits : goal.push_digits-requires-clause-digits
push_digits-requires-clause-digits c = (cut_digits c.args.places c.args.digits.now c.requires.digits).0

pub returns-in_err-push_digits : goal.returns-in_err-push_digits
returns-in_err-push_digits c =
    let n = c.args.amount in
    let ds = c.args.digits.now in
    let none : None ≡ in_range (pushed n ds) = c.in_err-push_digits.ensures.amount in
    let failed = none_past (pushed n ds) (pushed_to n ds c.args.places) (out_is (pushed n ds) none) (to_least_many n ds c.args.places c.if-places-digits.false) in
    record { amount = c.from_residual.ensures ∙ sym failed }
