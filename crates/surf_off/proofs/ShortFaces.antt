-- Lines that are made from their ends.
use Rattle.std.proofs.Common.{◌≡◌, ◌<◌, ◌≤◌, ◌+◌, ◌^◌, ℕ, List, ◌∷◌, ◌++◌, length, get_or, drop, sym, ◌∙◌, ap, append_assoc, length-append, arith}
use Rattle.surf_surfaces.proofs.Common.{decimal, length-decimal-le, drop_more}
use Rattle.surf_text.specs.Numbers.{numbers_text}

pub number_short : (n : ℕ) → n < 2 ^ 32 → length (decimal n) ≤ 10
number_short n few = length-decimal-le 10 n (omega arith) (omega (arith, few)) (omega (arith, few))

-- how long a slip is at most once such a number stands before what it held
pub number_before : (new old : List ℕ) (n : ℕ) → n < 2 ^ 32 → new ≡ decimal n ++ old → length new ≤ 10 + length old
number_before new old n few is = omega (arith, ap length is, length-append (decimal n) old, number_short n few)

pub size_short : (n : ℕ) → n ≤ 5 → length (decimal n) ≤ 1
size_short n few = length-decimal-le 1 n (omega arith) (omega (arith, few)) (omega (arith, few))

-- a number and the space before it, put before those that come after it
pub spaced_before : (corners : List ℕ) (i d : ℕ) (slip end : List ℕ) → i < length corners → slip ≡ numbers_text (drop (i + 1) corners) ++ end →
    32 ∷ (decimal (get_or corners i d) ++ slip) ≡ numbers_text (drop i corners) ++ end
spaced_before corners i d slip end lt is =
    let n : ℕ = get_or corners i d in
    let rest : List ℕ = numbers_text (drop (i + 1) corners) in
    ap (λ (t : List ℕ). 32 ∷ (decimal n ++ t)) is ∙ sym (append_assoc (32 ∷ decimal n) rest end)
    ∙ ap (λ (ns : List ℕ). numbers_text ns ++ end) (sym (drop_more corners i d lt))
