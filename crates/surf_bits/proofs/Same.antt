-- Words that write one number.
use Rattle.surf_z2.proofs.Common.{ℕ, zero, suc, ◌≡◌, ◌+◌, ◌*◌, ◌<◌, ◌^◌, List, [], ◌∷◌, get_or, refl, arith, number}

-- the same words, where those that aren't there are zero
pub same_words : (us vs : List ℕ) → ((k : ℕ) → get_or us k 0 ≡ get_or vs k 0) → number us ≡ number vs
same_words [] [] e = refl
same_words [] (v ∷ vs) e =
    let low : 0 ≡ v = e 0 in
    let high : number [] ≡ number vs = same_words [] vs (λ k. e (suc k)) in
    let none : 0 ≡ number vs = high in
    omega (arith, low, none)
same_words (u ∷ us) [] e =
    let low : u ≡ 0 = e 0 in
    let high : number us ≡ number [] = same_words us [] (λ k. e (suc k)) in
    let none : number us ≡ 0 = high in
    omega (arith, low, none)
same_words (u ∷ us) (v ∷ vs) e =
    let low : u ≡ v = e 0 in
    let high : number us ≡ number vs = same_words us vs (λ k. e (suc k)) in
    rw (low, high) refl

-- one number has one word at each place
pub words_same : (us vs : List ℕ) → ((k : ℕ) → get_or us k 0 < 2 ^ 64) → ((k : ℕ) → get_or vs k 0 < 2 ^ 64) →
    number us ≡ number vs → (k : ℕ) → get_or us k 0 ≡ get_or vs k 0
words_same [] [] f g e k = refl
words_same [] (v ∷ vs) f g e zero = let both : 0 ≡ number vs * 2 ^ 64 + v = e in omega (arith, both)
words_same [] (v ∷ vs) f g e (suc k) =
    let both : 0 ≡ number vs * 2 ^ 64 + v = e in
    words_same [] vs f (λ k. g (suc k)) (omega (arith, both)) k
words_same (u ∷ us) [] f g e zero = let both : number us * 2 ^ 64 + u ≡ 0 = e in omega (arith, both)
words_same (u ∷ us) [] f g e (suc k) =
    let both : number us * 2 ^ 64 + u ≡ 0 = e in
    words_same us [] (λ k. f (suc k)) g (omega (arith, both)) k
words_same (u ∷ us) (v ∷ vs) f g e zero =
    let both : number us * 2 ^ 64 + u ≡ number vs * 2 ^ 64 + v = e in
    let low : u < 2 ^ 64 = f 0 in
    let low' : v < 2 ^ 64 = g 0 in
    omega (arith, both, low, low')
words_same (u ∷ us) (v ∷ vs) f g e (suc k) =
    let both : number us * 2 ^ 64 + u ≡ number vs * 2 ^ 64 + v = e in
    let low : u < 2 ^ 64 = f 0 in
    let low' : v < 2 ^ 64 = g 0 in
    words_same us vs (λ k. f (suc k)) (λ k. g (suc k)) (omega (arith, both, low, low')) k
