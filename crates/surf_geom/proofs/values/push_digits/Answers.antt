use Rattle.std.proofs.Common.{◌≡◌, ℕ, ◌+◌, ◌-◌, ◌*◌, take, get_or, sym, arith}
use Rattle.std.proofs.lemmas.List.Sums.{fold_more}
use Rattle.surf_geom.specs.Digits.{pushed}
use Rattle.surf_geom.proofs.DigitLaws.{pushed_front}
use Rattle.surf_geom.proofs.Quotients.{none_past}
use Rattle.surf_geom.proofs.values.push_digits.Goals as goal

pub returns-then-amount-ge-TOO_GREAT : goal.returns-then-amount-ge-TOO_GREAT
returns-then-amount-ge-TOO_GREAT c =
    let n = c.args.amount in
    let ds = c.args.digits.now in
    let i = c.loop-digit.digit-index in
    let one : pushed n (take (i + 1) ds) ≡ pushed n (take i ds) * 10 + (get_or ds i 0 - 48) = fold_more (λ (n b : ℕ). n * 10 + (b - 48)) n ds i 0 c.loop-digit-test.true in
    record { amount = sym (none_past (pushed n (take (i + 1) ds)) (pushed n ds) (omega arith) (pushed_front n (i + 1) ds)) }
