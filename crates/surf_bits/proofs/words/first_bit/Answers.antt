use Rattle.std.proofs.Common.{ℕ, ◌≡◌, ◌<◌, ◌^◌, ◌/◌, ◌%◌, ◌+◌, ◌*◌, get_or, ◌∙◌, arith, w64}
use Rattle.std.proofs.lemmas.Bool.{eq-eqb}
use Rattle.std.proofs.lemmas.Nat.Bits.{bit_at-trailing_zeros}
use Rattle.std.specs.Int.{bit_at, trailing_zeros}
use Rattle.surf_z2.specs.Words.{number}
use Rattle.surf_z2.proofs.Words.{bit_number, number_zero}
use Rattle.surf_bits.proofs.words.first_bit.Goals as goal

pub returns-then-word-ne0 : goal.returns-then-word-ne0
returns-then-word-ne0 c =
    let ws = c.args.words.now in
    let i = c.loop-i.i in
    let w = get_or ws i 0 in
    let fits : (i : ℕ) → get_or ws i 0 < 2 ^ 64 = λ i. omega (arith, c.type_inv.words i) in
    let pos : 0 < w = omega arith in
    let t = bit_at-trailing_zeros w64 w pos (fits i) in
    let z = trailing_zeros w64 w in
    let low : z < 64 = t.0 in
    let q : (64 * i + z) / 64 ≡ i = omega arith in
    let r : (64 * i + z) % 64 ≡ z = omega arith in
    (omega arith, eq-eqb (bit_at (number ws) (64 * i + z)) 1 (bit_number ws (64 * i + z) fits ∙ rw (q, r) t.1))

pub returns : goal.returns
returns c =
    number_zero c.args.words.now
    (λ k l. c.loop-i.invariant k (omega arith))
