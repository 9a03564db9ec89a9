use Rattle.std.proofs.Common.{ℕ, ◌≡◌, ◌<◌, ◌^◌, ◌/◌, ◌%◌, nat_eq, get_or, length, ap, sym, ◌∙◌, arith}
use Rattle.std.proofs.lemmas.Nat.Bits.{shr_and_one, bit_at-zero}
use Rattle.surf_z2.proofs.Common.{get_or_past, bit_at, le-ltb, number}
use Rattle.surf_z2.proofs.Words.{bit_number}
use Rattle.surf_bits.proofs.words.has_bit.Goals as goal

pub returns-then-i-words : goal.returns-then-i-words
returns-then-i-words c =
    let ws = c.args.words.now in
    let fits : (i : ℕ) → get_or ws i 0 < 2 ^ 64 = λ i. omega (arith, c.type_inv.words i) in
    ap (λ n. nat_eq n 1) (shr_and_one (get_or ws (c.args.k / 64) 0) (c.args.k % 64) ∙ sym (bit_number ws c.args.k fits))

pub returns-else-i-words : goal.returns-else-i-words
returns-else-i-words c =
    let ws = c.args.words.now in
    let k = c.args.k in
    let fits : (i : ℕ) → get_or ws i 0 < 2 ^ 64 = λ i. omega (arith, c.type_inv.words i) in
    let past : get_or ws (k / 64) 0 ≡ 0 = get_or_past ws (k / 64) 0 c.if-i-words.false in
    let none : bit_at (number ws) k ≡ 0 = bit_number ws k fits ∙ ap (λ w. bit_at w (k % 64)) past ∙ bit_at-zero (k % 64) in
    le-ltb (k / 64) (length ws) c.if-i-words.false ∙ ap (λ n. nat_eq n 1) (sym none)
