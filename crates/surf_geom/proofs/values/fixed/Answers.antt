use Rattle.std.proofs.Common.{◌≡◌, Option, Some, None, Ok, Err, ap, sym, ◌∙◌}
use Rattle.std.proofs.lemmas.Int.{to_z-of_z}
use Rattle.std.specs.Int.{w64}
use Rattle.std.specs.Prelude.{FitsSigned}
use Rattle.surf_geom.specs.Fixed.{decimal_in, fixed_if}
use Rattle.surf_geom.specs.Seen.{decimal_seen}
use Rattle.surf_geom.proofs.Quotients.{out_of_range, within_range}
use Rattle.surf_geom.proofs.values.fixed.Goals as goal

pub returns-in_default-amount : goal.returns-in_default-amount
returns-in_default-amount c =
    let d = decimal_seen c.in-Some.number in
    let read : Some d ≡ decimal_in c.args.token.now = c.in-Some.ensures.number in
    record { fixed = sym (out_of_range d c.in_default-amount.ensures.amount) ∙ ap fixed_if read }

pub returns : goal.returns
returns c =
    let d = decimal_seen c.in-Some.number in
    let read : Some d ≡ decimal_in c.args.token.now = c.in-Some.ensures.number in
    let fits : FitsSigned w64 c.signed.result = search Rattle.std.proofs.Common.rules in
    let value = within_range d c.in-Some-amount.amount c.in-Some-amount.ensures.amount in
    record { fixed = ap (λ z. Ok z) (to_z-of_z w64 c.signed.result fits ∙ c.signed.ensures.value) ∙ sym value ∙ ap fixed_if read }
