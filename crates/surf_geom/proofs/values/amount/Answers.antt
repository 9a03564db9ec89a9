use Rattle.std.proofs.Common.{◌≡◌, ℕ, ◌+◌, ◌-◌, None, take, length, ap, sym, ◌∙◌, arith}
use Rattle.surf_geom.specs.Digits.{pushed, pushed_to, in_range}
use Rattle.surf_text.specs.Text.{value_of}
use Rattle.surf_geom.specs.Fixed.{fixed_amount}
use Rattle.surf_geom.specs.Seen.{decimal_seen}
use Rattle.surf_geom.proofs.DigitLaws.{both_digits, cut_digits}
use Rattle.surf_geom.proofs.Quotients.{none_past, out_is, in_is, to_least, amount_before, amount_behind}
use Rattle.surf_geom.proofs.values.amount.Goals as goal

pub push_digits-requires-clause-digits : goal.push_digits-requires-clause-digits
push_digits-requires-clause-digits c =
    let n = c.args.number.now in
    (cut_digits c.saturating_sub-kept.result n.front.now (both_digits n.front.now n.behind.now c.requires.digits).0).0

pub returns-then-right-left : goal.returns-then-right-left
returns-then-right-left c =
    let n = c.args.number.now in
    let same = amount_before (decimal_seen n) c.requires.digits c.if-right-left.true in
    let kept : c.saturating_sub-kept.result ≡ length n.front.now - (n.lowered - (n.raised + 9)) = c.saturating_sub-kept.ensures in
    record { amount = c.push_digits.ensures.amount ∙ ap (λ (k : ℕ). in_range (pushed 0 (take k n.front.now))) kept ∙ sym (ap in_range same) }

pub returns-in_err-whole : goal.returns-in_err-whole
returns-in_err-whole c =
    let n = c.args.number.now in
    let whole = value_of n.front.now in
    let same = amount_behind (decimal_seen n) c.requires.digits c.if-right-left.false in
    let none : None ≡ in_range whole = c.in_err-whole.ensures.amount in
    let more = to_least whole n.behind.now ((n.raised + 9) - n.lowered) in
    let failed = none_past whole (fixed_amount (decimal_seen n)) (out_is whole none) (omega (arith, same, more)) in
    record { amount = c.from_residual.ensures ∙ sym failed }

pub returns : goal.returns
returns c =
    let n = c.args.number.now in
    let same = amount_behind (decimal_seen n) c.requires.digits c.if-right-left.false in
    let whole : c.in_ok-whole.whole ≡ value_of n.front.now = (in_is (value_of n.front.now) c.in_ok-whole.whole c.in_ok-whole.ensures.amount).0 in
    record { amount = c.push_places.ensures.amount ∙ ap (λ (v : ℕ). in_range (pushed_to v n.behind.now ((n.raised + 9) - n.lowered))) whole ∙ sym (ap in_range same) }
