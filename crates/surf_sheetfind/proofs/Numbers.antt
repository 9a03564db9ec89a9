-- The numbers of a set, counted from 1.
use Rattle.surf_surfaces.proofs.Common.{◌≡◌, ◌≢◌, ℕ, zero, suc, ◌-◌, ◌<◌, ◌≤◌, ◌^◌, ◌++◌, Bool, true, false, cond, List, [], ◌∷◌, length, get_or, map, bit_xor, refl, sym, ap, ◌∙◌, subst, arith, inl, inr, All, All-push, AllPairs, cases_lt, map-append, get_or_append_left, get_or_push, length-append, xor_zero_r, has, numbers, sum_of, same_from_has}
use Rattle.surf_z2.proofs.Basics.{span_law}
use Rattle.surf_sheetcheck.specs.Cocycles.{set_of}
use Rattle.surf_sheetcheck.specs.Fits.{NumbersFit}
use Rattle.surf_paired.specs.Paired.{sum_of_rows}
use Rattle.surf_paired.proofs.Rows.{units_have, units_small, has_above}
use Rattle.surf_sheetfind.specs.Listed.{numbers_below}

-- ---- lists with one member more

pub set_push : (row : List ℕ) (x : ℕ) → set_of (row ++ x ∷ []) ≡ bit_xor (set_of row) (2 ^ (x - 1))
set_push row x =
    ap (sum_of numbers) (map-append (λ i. 2 ^ (i - 1)) row (x ∷ []))
    ∙ (span_law numbers).joined (map (λ i. 2 ^ (i - 1)) row) (2 ^ (x - 1) ∷ [])
    ∙ ap (bit_xor (set_of row)) (xor_zero_r (2 ^ (x - 1)))

-- pairs of members, where one is added that fits all of them
pub pairs_push : {X : Type 0} (R : X → X → Type 0) (xs : List X) (x : X) → AllPairs R xs → All (λ y. R y x) xs →
    AllPairs R (xs ++ x ∷ [])
pairs_push R xs x pairs last i j d lt l =
    let size = length-append xs (x ∷ []) in
    let i_in : i < length xs = omega (arith, lt, l, size) in
    let at_i = get_or_append_left xs (x ∷ []) d i i_in in
    elim (cases_lt j (length xs)) [
      | inl less ↦
          subst (λ a. R a (get_or (xs ++ x ∷ []) j d)) (sym at_i)
          (subst (R (get_or xs i d)) (sym (get_or_append_left xs (x ∷ []) d j less)) (pairs i j d lt less))
      | inr past ↦
          let same : j ≡ length xs = omega (arith, l, past, size) in
          let at_j : get_or (xs ++ x ∷ []) j d ≡ x =
          ap (λ m. get_or (xs ++ x ∷ []) m d) same ∙ get_or_push xs x d (length xs) refl in
          subst (λ a. R a (get_or (xs ++ x ∷ []) j d)) (sym at_i)
          (subst (R (get_or xs i d)) (sym at_j) (last i d i_in))
    ]

-- ---- the numbers of a set

-- one number more, or not
pub numbers_on : (set n : ℕ) → has set n ≡ true → numbers_below set (suc n) ≡ numbers_below set n ++ suc n ∷ []
numbers_on set n on = ap (λ b. cond b (numbers_below set n ++ suc n ∷ []) (numbers_below set n)) on

pub numbers_off : (set n : ℕ) → has set n ≡ false → numbers_below set (suc n) ≡ numbers_below set n
numbers_off set n off = ap (λ b. cond b (numbers_below set n ++ suc n ∷ []) (numbers_below set n)) off

-- they make up what the rows that are units make
set_of_numbers : (set n : ℕ) → set_of (numbers_below set n) ≡ sum_of_rows (λ k. 2 ^ k) set n
set_of_numbers set zero = refl
set_of_numbers set (suc n) = split (has set n) (set_of_numbers set n)
  where
    split : (b : Bool) → set_of (numbers_below set n) ≡ sum_of_rows (λ k. 2 ^ k) set n →
        set_of (cond b (numbers_below set n ++ suc n ∷ []) (numbers_below set n))
        ≡ cond b (bit_xor (2 ^ n) (sum_of_rows (λ k. 2 ^ k) set n)) (sum_of_rows (λ k. 2 ^ k) set n)
    split true before =
        let back : suc n - 1 ≡ n = omega arith in
        set_push (numbers_below set n) (suc n) ∙ ap (λ m. bit_xor (set_of (numbers_below set n)) (2 ^ m)) back
        ∙ ap (λ x. bit_xor x (2 ^ n)) before ∙ numbers.comm (sum_of_rows (λ k. 2 ^ k) set n) (2 ^ n)
    split false before = before

-- so the set of the numbers below n is the set, where it has no others
pub numbers_make : (set n : ℕ) → set < 2 ^ n → set_of (numbers_below set n) ≡ set
numbers_make set n small =
    set_of_numbers set n ∙ same_from_has (sum_of_rows (λ k. 2 ^ k) set n) set (λ k. elim (cases_lt k n) [
      | inl less ↦ units_have (λ j. 2 ^ j) set n (λ j l. refl) k less
      | inr past ↦
          has_above n (sum_of_rows (λ j. 2 ^ j) set n) k (units_small set n) past
          ∙ sym (has_above n set k small past)
    ])

-- each is at least 1 and at most the bound
each_within : (set n : ℕ) → All (λ i. (1 ≤ i) × (i ≤ n)) (numbers_below set n)
each_within set zero = λ k d l. absurd (omega (arith, l))
each_within set (suc n) = split (has set n) (weaker (each_within set n))
  where
    weaker : All (λ i. (1 ≤ i) × (i ≤ n)) (numbers_below set n) → All (λ i. (1 ≤ i) × (i ≤ suc n)) (numbers_below set n)
    weaker all k d l = let both = all k d l in (omega (arith, both.0), omega (arith, both.1))

    split : (b : Bool) → All (λ i. (1 ≤ i) × (i ≤ suc n)) (numbers_below set n) →
        All (λ i. (1 ≤ i) × (i ≤ suc n)) (cond b (numbers_below set n ++ suc n ∷ []) (numbers_below set n))
    split true all =
        All-push (λ i. (1 ≤ i) × (i ≤ suc n)) (numbers_below set n) (suc n) all (omega arith, omega arith)
    split false all = all

numbers_rise : (set n : ℕ) → AllPairs (λ i j. i < j) (numbers_below set n)
numbers_rise set zero = λ i j d lt l. absurd (omega (arith, l))
numbers_rise set (suc n) = split (has set n) (numbers_rise set n)
  where
    below : All (λ i. i < suc n) (numbers_below set n)
    below k d l = let both = each_within set n k d l in omega (arith, both.1)

    split : (b : Bool) → AllPairs (λ i j. i < j) (numbers_below set n) →
        AllPairs (λ i j. i < j) (cond b (numbers_below set n ++ suc n ∷ []) (numbers_below set n))
    split true pairs = pairs_push (λ i j. i < j) (numbers_below set n) (suc n) pairs below
    split false pairs = pairs

-- there is some, where the set isn't empty
pub numbers_fit : (set n : ℕ) → set < 2 ^ n → set ≢ 0 → NumbersFit n (numbers_below set n)
numbers_fit set n small some = record {
  some = elim (cases_lt 0 (length (numbers_below set n))) [
    | inl less ↦ omega (arith, less)
    | inr none ↦ absurd (some (sym (numbers_make set n small) ∙ empty (numbers_below set n) none))
  ];
  each = each_within set n;
  rises = numbers_rise set n;
}
  where
    empty : (row : List ℕ) → length row ≤ 0 → set_of row ≡ 0
    empty [] none = refl
    empty (x ∷ row) none = absurd (omega (arith, none))
