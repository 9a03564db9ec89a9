use Rattle.surf_z2.proofs.Common.{ℕ, ◌≡◌, ◌<◌, ◌^◌, ◌/◌, ◌%◌, ◌*◌, ◌+◌, get_or, set, bit_xor, ap, ◌∙◌, arith, number}
use Rattle.std.proofs.lemmas.Nat.{pow_below}
use Rattle.surf_z2.proofs.Words.{number_toggle}
use Rattle.surf_bits.proofs.words.toggle_bit.Goals as goal

pub returns : goal.returns
returns c =
    let ws = c.args.words.now in
    let k = c.args.k in
    let fits : (i : ℕ) → get_or ws i 0 < 2 ^ 64 = c.words_fit.ensures in
    let e : 64 * (k / 64) + k % 64 ≡ k = omega arith in
    let j = k % 64 in
    let low : 2 ^ j < 2 ^ 64 = pow_below j 64 (omega arith) in
    let one : 1 * 2 ^ j % 18446744073709551616 ≡ 2 ^ j = omega arith in
    let t = number_toggle ws (k / 64) j (omega arith) (omega arith) fits in
    ap (λ n. number (set ws (k / 64) (bit_xor (get_or ws (k / 64) 0) n))) one ∙ t ∙ ap (λ n. bit_xor (number ws) (2 ^ n)) e
