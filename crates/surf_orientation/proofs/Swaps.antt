-- The sign of a swap, and of a turn that leaves the last thing where it is.
use Rattle.surf_surfaces.proofs.Common.{◌≡◌, ◌≢◌, ℕ, suc, ◌<◌, Bool, true, false, cond, ◌&&◌, eqb, ltb, refl, sym, ◌∙◌, ap, arith, inl, inr, cases_eq, cases_lt, lt-ltb, le-ltb, eq-eqb, ne_eqb, xor, odd_below, IsTurn}
use Rattle.surf_z2.proofs.ParityLaws.{xor-false, and-false, odd_below-same, odd_below-none, odd_below-only, odd_below-xor, odd_below-at}
use Rattle.surf_graphs.proofs.Signs.{is_odd}

-- m and n for each other
abbrev pub swap : ℕ → ℕ → ℕ → ℕ
swap m n k = cond (eqb k m) n (cond (eqb k n) m k)

pub swap-first : (m n : ℕ) → swap m n m ≡ n
swap-first m n = rw (eq-eqb m m refl)

pub swap-second : (m n : ℕ) → m ≢ n → swap m n n ≡ m
swap-second m n ne = rw (ne_eqb n m (λ e. ne (sym e)), eq-eqb n n refl)

pub swap-other : (m n k : ℕ) → k ≢ m → k ≢ n → swap m n k ≡ k
swap-other m n k a b = rw (ne_eqb k m a, ne_eqb k n b)

pub swap_turn : (n m : ℕ) → m < n → IsTurn (suc n) (swap m n) (swap m n)
swap_turn n m below = record { turn_in = inside; back_in = inside; back_turn = again; turn_back = again }
  where
    apart : m ≢ n
    apart = λ e. omega arith

    inside : (i : ℕ) → i < suc n → swap m n i < suc n
    inside i l = elim (cases_eq i m) [
      | inl e ↦ rw (e, swap-first m n) (omega arith)
      | inr e ↦ elim (cases_eq i n) [
        | inl f ↦ rw (f, swap-second m n apart) (omega arith)
        | inr f ↦ rw (swap-other m n i e f) l
      ]
    ]

    again : (i : ℕ) → i < suc n → swap m n (swap m n i) ≡ i
    again i l = elim (cases_eq i m) [
      | inl e ↦ ap (swap m n) (ap (swap m n) e ∙ swap-first m n) ∙ swap-second m n apart ∙ sym e
      | inr e ↦ elim (cases_eq i n) [
        | inl f ↦ ap (swap m n) (ap (swap m n) f ∙ swap-second m n apart) ∙ swap-first m n ∙ sym f
        | inr f ↦ ap (swap m n) (swap-other m n i e f) ∙ swap-other m n i e f
      ]
    ]

out_of_turn : (a b : ℕ) → (ltb a b && ltb b a) ≡ false
out_of_turn a b = elim (cases_lt a b) [
  | inl lt ↦ rw (lt-ltb a b lt, le-ltb b a (omega arith))
  | inr ge ↦ rw (le-ltb a b ge)
]

-- a swap of the last thing with another is odd
pub swap_odd : (n m : ℕ) → m < n → is_odd (suc n) (swap m n) ≡ true
swap_odd n m below =
    ap (λ t. xor t (odd_below n (λ j. odd_below (suc n) (λ i. ltb i j && ltb (swap m n j) (swap m n i))))) top
    ∙ ap (xor (xor above true))
    (odd_below-same n (λ j. odd_below (suc n) (λ i. ltb i j && ltb (swap m n j) (swap m n i))) (λ j. ltb m j) row)
    ∙ once above
  where
    above : Bool
    above = odd_below n (λ i. ltb m i)

    once : (a : Bool) → xor (xor a true) a ≡ true
    once true = refl
    once false = refl

    apart : m ≢ n
    apart = λ e. omega arith

    last : (i : ℕ) → i < n → (ltb i n && ltb (swap m n n) (swap m n i)) ≡ xor (ltb m i) (eqb m i && true)
    last i l = elim (cases_eq i m) [
      | inl e ↦ rw (lt-ltb i n l, swap-second m n apart)
          (rw (e, swap-first m n, lt-ltb m n below, le-ltb m m (omega arith), eq-eqb m m refl))
      | inr e ↦ rw (
        lt-ltb i n l,
        swap-second m n apart,
        swap-other m n i e (λ f. omega arith),
        ne_eqb m i (λ f. e (sym f)),
      ) (sym (xor-false (ltb m i)))
    ]

    top : odd_below (suc n) (λ i. ltb i n && ltb (swap m n n) (swap m n i)) ≡ xor above true
    top =
        ap (λ t. xor (t && ltb (swap m n n) (swap m n n)) (odd_below n (λ i. ltb i n && ltb (swap m n n) (swap m n i))))
        (le-ltb n n (omega arith))
        ∙ odd_below-same n (λ i. ltb i n && ltb (swap m n n) (swap m n i)) (λ i. xor (ltb m i) (eqb m i && true)) last
        ∙ odd_below-xor n (λ i. ltb m i) (λ i. eqb m i && true)
        ∙ ap (xor above) (odd_below-at n m (λ i. true) below)

    other : (j i : ℕ) → j < n → i < suc n → j ≢ m → i ≢ m → (ltb i j && ltb (swap m n j) (swap m n i)) ≡ false
    other j i lj li mj mi = elim (cases_eq i n) [
      | inl e ↦ rw (le-ltb i j (omega arith))
      | inr e ↦ rw (swap-other m n j mj (λ f. omega arith), swap-other m n i mi e) (out_of_turn i j)
    ]

    row : (j : ℕ) → j < n → odd_below (suc n) (λ i. ltb i j && ltb (swap m n j) (swap m n i)) ≡ ltb m j
    row j l = elim (cases_eq j m) [
      | inl e ↦
          odd_below-none (suc n) (λ i. ltb i j && ltb (swap m n j) (swap m n i))
          (λ i li. let in' = (swap_turn n m below).turn_in i li in
          rw (e, swap-first m n, le-ltb n (swap m n i) (omega (arith, in'))) (and-false (ltb i m)))
          ∙ sym (le-ltb m j (omega arith))
      | inr e ↦
          odd_below-only (suc n) m (λ i. ltb i j && ltb (swap m n j) (swap m n i)) (omega arith)
          (λ i li mi. other j i l li e mi)
          ∙ rw (swap-other m n j e (λ f. omega arith), swap-first m n, lt-ltb j n l) (and-is (ltb m j))
    ]
      where
        and-is : (a : Bool) → (a && true) ≡ a
        and-is true = refl
        and-is false = refl

-- where the last thing stays, the sign is that of the others
pub is_odd-stays : (n : ℕ) (turn : ℕ → ℕ) → turn n ≡ n → ((i : ℕ) → i < n → turn i < n) →
    is_odd (suc n) turn ≡ is_odd n turn
is_odd-stays n turn stays inside =
    ap (λ t. xor t (odd_below n (λ j. odd_below (suc n) (λ i. ltb i j && ltb (turn j) (turn i))))) top
    ∙ odd_below-same n (λ j. odd_below (suc n) (λ i. ltb i j && ltb (turn j) (turn i)))
    (λ j. odd_below n (λ i. ltb i j && ltb (turn j) (turn i))) row
  where
    top : odd_below (suc n) (λ i. ltb i n && ltb (turn n) (turn i)) ≡ false
    top = odd_below-none (suc n) (λ i. ltb i n && ltb (turn n) (turn i)) (λ i l. elim (cases_eq i n) [
      | inl e ↦ rw (e, le-ltb n n (omega arith))
      | inr e ↦ let in' = inside i (omega arith) in
          rw (stays, le-ltb n (turn i) (omega (arith, in'))) (and-false (ltb i n))
    ])

    row : (j : ℕ) → j < n → odd_below (suc n) (λ i. ltb i j && ltb (turn j) (turn i))
        ≡ odd_below n (λ i. ltb i j && ltb (turn j) (turn i))
    row j l = rw (le-ltb n j (omega arith))
