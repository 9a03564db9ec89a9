-- Greatest numbers of sums of sets, where each set has one of its own.
use Rattle.surf_choice.proofs.Common.{ℕ, zero, suc, ◌≡◌, ◌≢◌, ◌+◌, ◌-◌, ◌*◌, ◌<◌, ◌≤◌, ◌^◌, ◌⊎◌, List, [], ◌∷◌, ◌++◌, length, get_or, take, bit_xor, lit<, w64, refl, sym, ap, ◌∙◌, subst, arith, inl, inr, AllByRecursion, cases_lt, pow-le-pow_right, numbers, Independent, number, leading_zeros, pow-add, number_zero, xor_block, xor_comm, xor_self, xor_lt, IsGreatest, AreLed}
use Rattle.std.proofs.lemmas.Nat.{pow_pos, leading_top}
use Rattle.surf_z2.proofs.Span.{InSpan, Free, cancel, same_from_sum, independent_from_free}

-- a set has one greatest number
pub greatest_once : (x j k : ℕ) → IsGreatest j x → IsGreatest k x → j ≡ k
greatest_once x j k a b =
    let a_most : x < 2 ^ (j + 1) = a.most in
    let b_most : x < 2 ^ (k + 1) = b.most in
    let a_has : 2 ^ j ≤ x = a.has in
    let b_has : 2 ^ k ≤ x = b.has in
    elim (cases_lt j k) [
      | inl less ↦ let p : 2 ^ (j + 1) ≤ 2 ^ k = pow-le-pow_right (lit< tt) (omega arith) in absurd (omega (arith, p, a_most, b_has))
      | inr more ↦ elim (cases_lt k j) [
        | inl less ↦ let p : 2 ^ (k + 1) ≤ 2 ^ j = pow-le-pow_right (lit< tt) (omega arith) in absurd (omega (arith, p, b_most, a_has))
        | inr same ↦ omega (arith, more, same)
      ]
    ]

-- sets with one greatest number: their sum doesn't have it
pub same_greatest : (k x r : ℕ) → IsGreatest k x → IsGreatest k r → bit_xor x r < 2 ^ k
same_greatest k x r a b =
    let p : 2 ^ (k + 1) ≡ 2 ^ k * 2 = pow-add 2 k 1 in
    let x_has : 2 ^ k ≤ x = a.has in
    let x_most : x < 2 ^ (k + 1) = a.most in
    let r_has : 2 ^ k ≤ r = b.has in
    let r_most : r < 2 ^ (k + 1) = b.most in
    let x_is : x ≡ 1 * 2 ^ k + (x - 2 ^ k) = omega (arith, x_has) in
    let r_is : r ≡ 1 * 2 ^ k + (r - 2 ^ k) = omega (arith, r_has) in
    let x_low : x - 2 ^ k < 2 ^ k = omega (arith, x_has, x_most, p) in
    let r_low : r - 2 ^ k < 2 ^ k = omega (arith, r_has, r_most, p) in
    let none : 0 * 2 ^ k + bit_xor (x - 2 ^ k) (r - 2 ^ k) ≡ bit_xor (x - 2 ^ k) (r - 2 ^ k) = omega arith in
    let is : bit_xor x r ≡ bit_xor (x - 2 ^ k) (r - 2 ^ k) =
    ap (λ y. bit_xor y r) x_is ∙ ap (bit_xor (1 * 2 ^ k + (x - 2 ^ k))) r_is ∙ xor_block k 1 1 (x - 2 ^ k) (r - 2 ^ k) x_low r_low
    ∙ ap (λ z. z * 2 ^ k + bit_xor (x - 2 ^ k) (r - 2 ^ k)) (xor_self 1) ∙ none in
    subst (λ z. z < 2 ^ k) (sym is) (xor_lt k (x - 2 ^ k) (r - 2 ^ k) x_low r_low)

-- sets with two of them: their sum has the greater one
pub apart_greatest : (j k r x : ℕ) → IsGreatest j r → IsGreatest k x → j < k → IsGreatest k (bit_xor r x)
apart_greatest j k r x a b less =
    let p : 2 ^ (j + 1) ≤ 2 ^ k = pow-le-pow_right (lit< tt) (omega arith) in
    let q : 2 ^ k ≤ 2 ^ (k + 1) = pow-le-pow_right (lit< tt) (omega arith) in
    let r_most : r < 2 ^ (j + 1) = a.most in
    let x_has : 2 ^ k ≤ x = b.has in
    let low : r < 2 ^ k = omega (arith, p, r_most) in
    record {
      has = elim (cases_lt (bit_xor r x) (2 ^ k)) [
        | inl small ↦
            let back : x < 2 ^ k = subst (λ y. y < 2 ^ k) (cancel numbers r x) (xor_lt k r (bit_xor r x) low small) in
            absurd (omega (arith, back, x_has))
        | inr large ↦ large
      ];
      most = xor_lt (k + 1) r x (omega (arith, low, q)) b.most;
    }

-- a number is in a list
abbrev pub IsIn : ℕ → List ℕ → Type 0
IsIn k [] = ⊥
IsIn k (t ∷ tops) = (k ≡ t) ⊎ IsIn k tops

pub not_in : (k : ℕ) (tops : List ℕ) → AllByRecursion (λ t. t ≢ k) tops → IsIn k tops → ⊥
not_in k [] h is = is
not_in k (t ∷ tops) h (inl e) = h.0 (sym e)
not_in k (t ∷ tops) h (inr is) = not_in k tops h.1 is

-- a sum of rows is none, or has the greatest number of a row as its greatest
pub sum_led : (rows tops : List ℕ) → AreLed rows tops → (x : ℕ) → InSpan numbers rows x →
    (x ≡ 0) ⊎ ((k : ℕ) × IsGreatest k x × IsIn k tops)
sum_led [] [] led x h = inl h
sum_led [] (k ∷ tops) led x h = absurd led
sum_led (r ∷ rows) [] led x h = absurd led
sum_led (r ∷ rows) (t ∷ tops) led x (inl h) = elim (sum_led rows tops led.2 x h) [
  | inl none ↦ inl none
  | inr some ↦ inr (some.0, some.1, inr some.2)
]
sum_led (r ∷ rows) (t ∷ tops) led x (inr h) = elim (sum_led rows tops led.2 (bit_xor r x) h) [
  | inl none ↦ inr (t, subst (IsGreatest t) (same_from_sum numbers r x none) led.0, inl refl)
  | inr some ↦ elim (cases_lt t some.0) [
    | inl less ↦ inr (some.0, subst (IsGreatest some.0) (cancel numbers r x) (apart_greatest t some.0 r (bit_xor r x) led.0 some.1 less), inr some.2)
    | inr more ↦ elim (cases_lt some.0 t) [
      | inl less ↦ inr (
        t,
        subst (IsGreatest t) (xor_comm (bit_xor r x) r ∙ cancel numbers r x) (apart_greatest some.0 t (bit_xor r x) r some.1 led.0 less),
        inl refl,
      )
      | inr same ↦ let is : some.0 ≡ t = omega (arith, more, same) in absurd (not_in t tops led.1 (subst (λ n. IsIn n tops) is some.2))
    ]
  ]
]

-- a set whose greatest number is that of no row is no sum of rows
pub other_led : (rows tops : List ℕ) (k x : ℕ) → AreLed rows tops → IsGreatest k x → AllByRecursion (λ t. t ≢ k) tops →
    InSpan numbers rows x → ⊥
other_led rows tops k x led g out h = elim (sum_led rows tops led x h) [
  | inl none ↦ let has : 2 ^ k ≤ x = g.has in absurd (omega (arith, pow_pos k, has, none))
  | inr some ↦ not_in k tops out (subst (λ n. IsIn n tops) (greatest_once x some.0 k some.1 g) some.2)
]

-- no row is a sum of those after it
pub free_led : (rows tops : List ℕ) → AreLed rows tops → Free numbers rows
free_led [] [] led = tt
free_led [] (k ∷ tops) led = absurd led
free_led (r ∷ rows) [] led = absurd led
free_led (r ∷ rows) (k ∷ tops) led = (other_led rows tops k r led.2 led.0 led.1, free_led rows tops led.2)

pub independent_led : (rows tops : List ℕ) → AreLed rows tops → Independent numbers rows
independent_led rows tops led = independent_from_free numbers rows (free_led rows tops led)

-- as many rows as greatest numbers
pub led_count : (rows tops : List ℕ) → AreLed rows tops → length tops ≡ length rows
led_count [] [] led = refl
led_count [] (k ∷ tops) led = absurd led
led_count (r ∷ rows) [] led = absurd led
led_count (r ∷ rows) (k ∷ tops) led = ap suc (led_count rows tops led.2)

all_front : (n k : ℕ) (tops : List ℕ) → AllByRecursion (λ t. t ≢ k) tops → AllByRecursion (λ t. t ≢ k) (take n tops)
all_front zero k tops h = tt
all_front (suc n) k [] h = tt
all_front (suc n) k (t ∷ tops) h = (h.0, all_front n k tops h.1)

pub led_front : (n : ℕ) (rows tops : List ℕ) → AreLed rows tops → AreLed (take n rows) (take n tops)
led_front zero rows tops led = tt
led_front (suc n) [] [] led = tt
led_front (suc n) [] (k ∷ tops) led = absurd led
led_front (suc n) (r ∷ rows) [] led = absurd led
led_front (suc n) (r ∷ rows) (k ∷ tops) led = (led.0, all_front n k tops led.1, led_front n rows tops led.2)

pub led_more : (rows tops : List ℕ) (r k : ℕ) → AreLed rows tops → IsGreatest k r → AllByRecursion (λ t. t ≢ k) tops →
    AreLed (rows ++ r ∷ []) (tops ++ k ∷ [])
led_more [] [] r k led g out = (g, tt, tt)
led_more [] (t ∷ tops) r k led g out = absurd led
led_more (s ∷ rows) [] r k led g out = absurd led
led_more (s ∷ rows) (t ∷ tops) r k led g out = (led.0, apart tops led.1, led_more rows tops r k led.2 g out.1)
  where
    apart : (tops : List ℕ) → AllByRecursion (λ u. u ≢ t) tops → AllByRecursion (λ u. u ≢ t) (tops ++ k ∷ [])
    apart [] h = ((λ e. out.0 (sym e)), tt)
    apart (u ∷ tops) h = (h.0, apart tops h.1)

-- a greatest number of a row, by its place
pub led_at : (rows tops : List ℕ) (i d : ℕ) → AreLed rows tops → i < length tops → IsGreatest (get_or tops i 0) (get_or rows i d)
led_at [] [] i d led l = absurd (omega arith)
led_at [] (k ∷ tops) i d led l = absurd led
led_at (r ∷ rows) [] i d led l = absurd led
led_at (r ∷ rows) (k ∷ tops) zero d led l = led.0
led_at (r ∷ rows) (k ∷ tops) (suc i) d led l = led_at rows tops i d led.2 (omega arith)

-- a number below two to another one
pub exponent_below : (j k x : ℕ) → 2 ^ j ≤ x → x < 2 ^ k → j < k
exponent_below j k x low high = elim (cases_lt j k) [
  | inl less ↦ less
  | inr more ↦ let p : 2 ^ k ≤ 2 ^ j = pow-le-pow_right (lit< tt) more in absurd (omega (arith, p, low, high))
]

-- the greatest number in one word
pub word_greatest : (w : ℕ) → 0 < w → w < 2 ^ 64 → (j : ℕ) × (leading_zeros w64 w + (j + 1) ≡ 64) × IsGreatest j w
word_greatest w pos fits =
    let t = leading_top 64 w pos fits in
    let more : suc t.0 ≡ t.0 + 1 = omega arith in (
      t.0,
      subst (λ n. leading_zeros w64 w + n ≡ 64) more t.1,
      record { has = t.2; most = subst (λ n. w < 2 ^ n) more t.3 },
    )

-- the greatest number in words is that of the last one that isn't zero
pub number_greatest : (ws : List ℕ) (i j : ℕ) → i < length ws → ((k : ℕ) → get_or ws k 0 < 2 ^ 64) →
    ((k : ℕ) → i < k → get_or ws k 0 ≡ 0) → IsGreatest j (get_or ws i 0) → IsGreatest (64 * i + j) (number ws)
number_greatest [] i j l fits rest g = absurd (omega arith)
number_greatest (w ∷ ws) zero j l fits rest g =
    let z : number ws ≡ 0 = number_zero ws (λ k m. rest (suc k) (omega arith)) in
    let is : number ws * 2 ^ 64 + w ≡ w = omega (arith, z) in
    let e : 64 * 0 + j ≡ j = omega arith in
    subst (λ k. IsGreatest k (number ws * 2 ^ 64 + w)) (sym e) (subst (IsGreatest j) (sym is) g)
number_greatest (w ∷ ws) (suc i) j l fits rest g =
    let ih = number_greatest ws i j (omega arith) (λ k. fits (suc k)) (λ k m. rest (suc k) (omega arith)) g in
    let has : 2 ^ (64 * i + j) ≤ number ws = ih.has in
    let most : number ws < 2 ^ (64 * i + j + 1) = ih.most in
    let low : w < 2 ^ 64 = fits 0 in
    let m : 64 * suc i + j ≡ 64 * i + j + 64 = omega arith in
    let n : 64 * suc i + j + 1 ≡ 64 * i + j + 1 + 64 = omega arith in
    let p : 2 ^ (64 * suc i + j) ≡ 2 ^ (64 * i + j) * 2 ^ 64 = ap (λ k. 2 ^ k) m ∙ pow-add 2 (64 * i + j) 64 in
    let q : 2 ^ (64 * suc i + j + 1) ≡ 2 ^ (64 * i + j + 1) * 2 ^ 64 = ap (λ k. 2 ^ k) n ∙ pow-add 2 (64 * i + j + 1) 64 in
    record { has = omega (arith, p, has); most = omega (arith, q, most, low) }
