-- Sums of words where one table is shorter, and the first words of a table.
use Rattle.surf_z2.proofs.Common.{ℕ, suc, ◌≡◌, ◌+◌, ◌*◌, ◌<◌, ◌≤◌, ◌^◌, List, [], ◌∷◌, length, get_or, bit_xor, refl, sym, ap, ◌∙◌, arith, number}
use Rattle.std.specs.Int.Bits.{xor_block, xor_zero_r}

-- a table to whose first words those of another are added
pub number_front : (us vs ws : List ℕ) → length vs ≤ length us → length ws ≡ length us → ((k : ℕ) → get_or us k 0 < 2 ^ 64) → ((k : ℕ) → get_or vs k 0 < 2 ^ 64) →
    ((k : ℕ) → k < length vs → get_or ws k 0 ≡ bit_xor (get_or us k 0) (get_or vs k 0)) → ((k : ℕ) → length vs ≤ k → get_or ws k 0 ≡ get_or us k 0) →
    number ws ≡ bit_xor (number us) (number vs)
number_front [] [] [] d e f g h s = refl
number_front [] (v ∷ vs) ws d e f g h s = absurd (omega arith)
number_front [] [] (w ∷ ws) d e f g h s = absurd (omega arith)
number_front (u ∷ us) vs [] d e f g h s = absurd (omega arith)
number_front (u ∷ us) [] (w ∷ ws) d e f g h s =
    let ih = number_front us [] ws (omega arith) (omega arith) (λ k. f (suc k)) g (λ k l. absurd (omega arith)) (λ k l. s (suc k) (omega arith)) in
    let one : w ≡ u = s 0 (omega arith) in
    ap (λ n. n * 2 ^ 64 + w) (ih ∙ xor_zero_r (number us)) ∙ ap (λ n. number us * 2 ^ 64 + n) one ∙ sym (xor_zero_r (number us * 2 ^ 64 + u))
number_front (u ∷ us) (v ∷ vs) (w ∷ ws) d e f g h s =
    let ih = number_front us vs ws (omega arith) (omega arith) (λ k. f (suc k)) (λ k. g (suc k)) (λ k l. h (suc k) (omega arith)) (λ k l. s (suc k) (omega arith)) in
    let one : w ≡ bit_xor u v = h 0 (omega arith) in
    rw (ih, one) (sym (xor_block 64 (number us) (number vs) u v (f 0) (g 0)))
