-- Lists of the numbers below a bound that pass a test.
use Rattle.std.proofs.Common.{ℕ, zero, suc, ◌<◌, ◌≤◌, ◌≡◌, ◌+◌, refl, sym, ap, ◌∙◌, append-nil, subst, arith, [], ◌∷◌, ◌++◌, length, filter, Bool, true, false, cond}
use Rattle.std.specs.List.{range_with_len}

passing_one : (p : ℕ → Bool) (a n : ℕ) → filter p (range_with_len a (suc n)) ≡ filter p (range_with_len a n) ++ cond (p (a + n)) ((a + n) ∷ []) []
passing_one p a zero = let e : a + 0 ≡ a = omega arith in subst (λ m. filter p (range_with_len a 1) ≡ cond (p m) (m ∷ []) []) (sym e) refl
passing_one p a (suc n) =
    let ih = passing_one p (a + 1) n in
    let e : a + 1 + n ≡ a + suc n = omega arith in
    split (p a) (subst (λ m. filter p (range_with_len (a + 1) (suc n)) ≡ filter p (range_with_len (a + 1) n) ++ cond (p m) (m ∷ []) []) e ih)
  where
    split : (b : Bool) → filter p (range_with_len (a + 1) (suc n)) ≡ filter p (range_with_len (a + 1) n) ++ cond (p (a + suc n)) ((a + suc n) ∷ []) [] →
        cond b (a ∷ filter p (range_with_len (a + 1) (suc n))) (filter p (range_with_len (a + 1) (suc n))) ≡
        cond b (a ∷ filter p (range_with_len (a + 1) n)) (filter p (range_with_len (a + 1) n)) ++ cond (p (a + suc n)) ((a + suc n) ∷ []) []
    split true h = ap (λ xs. a ∷ xs) h
    split false h = h

pub passing_more : (p : ℕ → Bool) (n : ℕ) → filter p (range_with_len 0 (n + 1)) ≡ filter p (range_with_len 0 n) ++ cond (p n) (n ∷ []) []
passing_more p n =
    let e : suc n ≡ n + 1 = omega arith in
    let z : 0 + n ≡ n = omega arith in
    subst (λ m. filter p (range_with_len 0 m) ≡ filter p (range_with_len 0 n) ++ cond (p n) (n ∷ []) []) e
    (subst (λ m. filter p (range_with_len 0 (suc n)) ≡ filter p (range_with_len 0 n) ++ cond (p m) (m ∷ []) []) z (passing_one p 0 n))

pub passing_taken : (p : ℕ → Bool) (n : ℕ) → p n ≡ true → filter p (range_with_len 0 (n + 1)) ≡ filter p (range_with_len 0 n) ++ n ∷ []
passing_taken p n h = passing_more p n ∙ ap (λ b. filter p (range_with_len 0 n) ++ cond b (n ∷ []) []) h

pub passing_left : (p : ℕ → Bool) (n : ℕ) → p n ≡ false → filter p (range_with_len 0 (n + 1)) ≡ filter p (range_with_len 0 n)
passing_left p n h = passing_more p n ∙ ap (λ b. filter p (range_with_len 0 n) ++ cond b (n ∷ []) []) h ∙ append-nil (filter p (range_with_len 0 n))

pub passing_few : (p : ℕ → Bool) (a n : ℕ) → length (filter p (range_with_len a n)) ≤ n
passing_few p a zero = omega arith
passing_few p a (suc n) = split (p a) (passing_few p (a + 1) n)
  where
    split : (b : Bool) → length (filter p (range_with_len (a + 1) n)) ≤ n → length (cond b (a ∷ filter p (range_with_len (a + 1) n)) (filter p (range_with_len (a + 1) n))) ≤ suc n
    split true h = omega arith
    split false h = omega arith

-- two tests that agree pass the same numbers
pub passing_same : (p q : ℕ → Bool) (a n : ℕ) → ((k : ℕ) → k < a + n → p k ≡ q k) → filter p (range_with_len a n) ≡ filter q (range_with_len a n)
passing_same p q a zero h = refl
passing_same p q a (suc n) h =
    let here : p a ≡ q a = h a (omega arith) in
    let rest = passing_same p q (a + 1) n (λ k l. h k (omega arith)) in
    rw here (split (q a) rest)
  where
    split : (b : Bool) → filter p (range_with_len (a + 1) n) ≡ filter q (range_with_len (a + 1) n) →
        cond b (a ∷ filter p (range_with_len (a + 1) n)) (filter p (range_with_len (a + 1) n)) ≡ cond b (a ∷ filter q (range_with_len (a + 1) n)) (filter q (range_with_len (a + 1) n))
    split true e = ap (λ xs. a ∷ xs) e
    split false e = e
