use Rattle.std.proofs.Common.{◌≡◌, ℕ, ◌+◌, ◌*◌, ◌≤◌, ◌^◌, add-one, ap, ◌∙◌, sym, arith}
use Rattle.std.proofs.Math.Nat.{pow-succ', pow-le-pow_right}
use Rattle.std.proofs.lemmas.Nat.{mul-le}
use Rattle.surf_geom.proofs.Quotients.{none_past}
use Rattle.surf_geom.proofs.values.push_zeros.Goals as goal

one_more : (n k : ℕ) → n * 10 ^ (k + 1) ≡ n * 10 ^ k * 10
one_more n k = let power : n * 10 ^ (k + 1) ≡ n * (10 * 10 ^ k) = ap (λ j. n * 10 ^ j) (add-one k) ∙ ap (λ p. n * p) (pow-succ' 10 k) in omega arith

pub returns-then-amount-ge-TOO_GREAT : goal.returns-then-amount-ge-TOO_GREAT
returns-then-amount-ge-TOO_GREAT c =
    let n = c.args.amount in
    let k = c.loop.counter in
    let most : 10 ^ (k + 1) ≤ 10 ^ c.args.zeros = pow-le-pow_right (omega arith) (omega arith) in
    let all : n * 10 ^ (k + 1) ≤ n * 10 ^ c.args.zeros = mul-le n (10 ^ (k + 1)) n (10 ^ c.args.zeros) (omega arith) most in
    record { amount = sym (none_past (n * 10 ^ (k + 1)) (n * 10 ^ c.args.zeros) (omega (arith, one_more n k)) all) }

pub loop-preserved : goal.loop-preserved
loop-preserved c = record { small = omega arith; so_far = omega (arith, one_more c.args.amount c.loop.counter) }
