-- The greatest number of a set that is written in words.
use Rattle.surf_treecheck.proofs.Common.{◌≡◌, ℕ, suc, ◌+◌, ◌*◌, ◌/◌, ◌%◌, ◌^◌, ◌<◌, ◌≤◌, List, get_or, eqb, ap, ◌∙◌, subst, arith, inl, inr, cases_eq, number, bit_at, bit_at_above, bit_at-zero, pow-add, pow_pos, le-div, div_below}
use Rattle.surf_certcheck.proofs.Common.{IsGreatestIn}
use Rattle.surf_z2.proofs.Words.{bit_number}

-- a number from a power of two up to the next has its bit
top_bit : (a j : ℕ) → 2 ^ j ≤ a → a < 2 ^ (j + 1) → bit_at a j ≡ 1
top_bit a j low high =
    let some : 0 < 2 ^ j = pow_pos j in
    let two : 2 ^ (j + 1) ≡ 2 ^ j * 2 = pow-add 2 j 1 in
    let least : 1 ≤ a / 2 ^ j = le-div 1 a (2 ^ j) some (omega (arith, low)) in
    let most : a / 2 ^ j < 2 = div_below a (2 ^ j) 2 some (omega (arith, high, two)) in
    let is : a / 2 ^ j ≡ 1 = omega (arith, least, most) in
    ap (λ q. q % 2) is

-- the greatest number in words is that of the last one that isn't zero
pub words_greatest : (ws : List ℕ) (i j : ℕ) → ((k : ℕ) → get_or ws k 0 < 2 ^ 64) → ((k : ℕ) → i < k → get_or ws k 0 ≡ 0) →
    2 ^ j ≤ get_or ws i 0 → get_or ws i 0 < 2 ^ suc j → j < 64 → IsGreatestIn (number ws) (64 * i + j)
words_greatest ws i j fits rest low high small =
    let next : get_or ws i 0 < 2 ^ (j + 1) = subst (λ n. get_or ws i 0 < 2 ^ n) (omega arith) high in
    let q : (64 * i + j) / 64 ≡ i = omega (arith, small) in
    let r : (64 * i + j) % 64 ≡ j = omega (arith, small) in
    let word : bit_at (get_or ws ((64 * i + j) / 64) 0) ((64 * i + j) % 64) ≡ 1 =
    rw (q, r) (top_bit (get_or ws i 0) j low next) in
    let here : bit_at (number ws) (64 * i + j) ≡ 1 = bit_number ws (64 * i + j) fits ∙ word in
    record {
      on = ap (λ b. eqb b 1) here;
      above = λ m l.
          let none : bit_at (get_or ws (m / 64) 0) (m % 64) ≡ 0 = elim (cases_eq (m / 64) i) [
            | inl same ↦
                ap (λ k. bit_at (get_or ws k 0) (m % 64)) same
                ∙ bit_at_above (get_or ws i 0) (j + 1) (m % 64) next (omega (arith, same, l))
            | inr ne ↦
                let behind : i < m / 64 = omega (arith, ne, l, small) in
                ap (λ w. bit_at w (m % 64)) (rest (m / 64) behind) ∙ bit_at-zero (m % 64)
          ] in
          let off : bit_at (number ws) m ≡ 0 = bit_number ws m fits ∙ none in
          ap (λ b. eqb b 1) off;
    }
