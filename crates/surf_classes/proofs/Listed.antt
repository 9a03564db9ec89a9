-- Increasing lists of numbers and of pairs: what is in them, and that their members determine them.
use Rattle.surf_surfaces.proofs.Common.{◌≡◌, ℕ, zero, suc, ◌+◌, ◌<◌, ◌≤◌, ◌⊎◌, Bool, true, false, ◌||◌, eqb, List, [], ◌∷◌, refl, sym, ◌∙◌, arith, inl, inr, AllPairs, All-from_recursion, recursion_from_All, pair_lt, pair_eq, among, eqb-true, eq-eqb, ne_eqb, cases_eq, cases_Bool, false_from_ne_true, or_cases, or_left, or_from, false≢true}
use Rattle.std.specs.List.{AllByRecursion, filter, range_with_len}
use Rattle.surf_surfaces.proofs.meshes.PairLaws.{Rising, pair_eq-true, pair_lt-irreflexive}
use Rattle.surf_surfaces.proofs.meshes.FaceLaws.{Once}
use Rattle.surf_classes.specs.Evidence.{is_listed}

-- by recursion: each number is below all later ones
abbrev pub Climbing : List ℕ → Type 0
Climbing [] = Unit {0}
Climbing (f ∷ rest) = AllByRecursion (λ g. f < g) rest × Climbing rest

pub climbing_from : (xs : List ℕ) → AllPairs (λ f g. f < g) xs → Climbing xs
climbing_from [] h = tt
climbing_from (x ∷ xs) h = (
  recursion_from_All (λ g. x < g) xs (λ k d l. h zero (suc k) d (omega arith) (omega arith)),
  climbing_from xs (λ i j d lt l. h (suc i) (suc j) d (omega arith) (omega arith)),
)

pub climbing_at : (xs : List ℕ) → Climbing xs → AllPairs (λ f g. f < g) xs
climbing_at [] h i j d lt l = absurd (omega arith)
climbing_at (x ∷ xs) h i zero d lt l = absurd (omega arith)
climbing_at (x ∷ xs) h zero (suc j) d lt l = All-from_recursion (λ g. x < g) xs h.0 j d (omega arith)
climbing_at (x ∷ xs) h (suc i) (suc j) d lt l = climbing_at xs h.1 i j d (omega arith) (omega arith)

-- what is listed is not below what all listed numbers are above
pub listed_above : (x : ℕ) (xs : List ℕ) → AllByRecursion (λ g. x < g) xs → (k : ℕ) → is_listed xs k ≡ true → x < k
listed_above x [] h k is = absurd (false≢true is)
listed_above x (y ∷ ys) h k is = elim (or_cases (eqb k y) (is_listed ys k) is) [
  | inl here ↦ let same : k ≡ y = eqb-true k y here in let below : x < y = h.0 in omega arith
  | inr later ↦ listed_above x ys h.1 k later
]

-- increasing lists with the same members are one list
pub climbing_one : (xs ys : List ℕ) → Climbing xs → Climbing ys → ((k : ℕ) → is_listed xs k ≡ is_listed ys k) → xs ≡ ys
climbing_one [] [] h k same = refl
climbing_one [] (y ∷ ys) h k same =
    absurd (false≢true (same y ∙ or_left (eqb y y) (is_listed ys y) (eq-eqb y y refl)))
climbing_one (x ∷ xs) [] h k same =
    absurd (false≢true (sym (same x) ∙ or_left (eqb x x) (is_listed xs x) (eq-eqb x x refl)))
climbing_one (x ∷ xs) (y ∷ ys) h k same =
    let x_there : (eqb x y || is_listed ys x) ≡ true =
    sym (same x) ∙ or_left (eqb x x) (is_listed xs x) (eq-eqb x x refl) in
    let y_there : (eqb y x || is_listed xs y) ≡ true = same y ∙ or_left (eqb y y) (is_listed ys y) (eq-eqb y y refl) in
    let heads : x ≡ y = elim (or_cases (eqb x y) (is_listed ys x) x_there) [
      | inl is ↦ eqb-true x y is
      | inr later ↦ elim (or_cases (eqb y x) (is_listed xs y) y_there) [
        | inl is ↦ sym (eqb-true y x is)
        | inr earlier ↦
            let one : y < x = listed_above y ys k.0 x later in
            let two : x < y = listed_above x xs h.0 y earlier in
            absurd (omega arith)
      ]
    ] in
    let tails : (j : ℕ) → is_listed xs j ≡ is_listed ys j = λ j. elim (cases_eq j x) [
      | inl is ↦
          let none_left : is_listed xs j ≡ false = false_from_ne_true (is_listed xs j)
          (λ in'. let below : x < j = listed_above x xs h.0 j in' in omega arith) in
          let none_right : is_listed ys j ≡ false = false_from_ne_true (is_listed ys j)
          (λ in'. let below : y < j = listed_above y ys k.0 j in' in omega arith) in
          none_left ∙ sym none_right
      | inr ne ↦
          let not_x : eqb j x ≡ false = ne_eqb j x ne in
          let not_y : eqb j y ≡ false = ne_eqb j y (λ e. ne (e ∙ sym heads)) in
          let both : (eqb j x || is_listed xs j) ≡ (eqb j y || is_listed ys j) = same j in
          rw (not_x, not_y) at both
    ] in
    rw (heads, climbing_one xs ys h.1 k.1 tails)

-- the numbers from a on, n of them, that pass
pub passing_above : (p : ℕ → Bool) (a n b : ℕ) → b < a → AllByRecursion (λ g. b < g) (filter p (range_with_len a n))
passing_above p a zero b l = tt
passing_above p a (suc n) b l = elim (cases_Bool (p a)) [
  | inl on ↦ rw on (l, passing_above p (a + 1) n b (omega arith))
  | inr off ↦ rw off (passing_above p (a + 1) n b (omega arith))
]

pub passing_climb : (p : ℕ → Bool) (a n : ℕ) → Climbing (filter p (range_with_len a n))
passing_climb p a zero = tt
passing_climb p a (suc n) = elim (cases_Bool (p a)) [
  | inl on ↦ rw on (passing_above p (a + 1) n a (omega arith), passing_climb p (a + 1) n)
  | inr off ↦ rw off (passing_climb p (a + 1) n)
]

pub passing_below : (p : ℕ → Bool) (a n b : ℕ) → a + n ≤ b → AllByRecursion (λ g. g < b) (filter p (range_with_len a n))
passing_below p a zero b l = tt
passing_below p a (suc n) b l = elim (cases_Bool (p a)) [
  | inl on ↦ rw on (omega arith, passing_below p (a + 1) n b (omega arith))
  | inr off ↦ rw off (passing_below p (a + 1) n b (omega arith))
]

-- a number that is not from a on is not listed
passing_absent : (p : ℕ → Bool) (a n k : ℕ) → k < a → is_listed (filter p (range_with_len a n)) k ≡ false
passing_absent p a n k l = false_from_ne_true (is_listed (filter p (range_with_len a n)) k)
    (λ in'. let above : k < k = listed_above k (filter p (range_with_len a n)) (passing_above p a n k l) k in' in omega arith)

pub passing_listed : (p : ℕ → Bool) (a n k : ℕ) → a ≤ k → k < a + n → is_listed (filter p (range_with_len a n)) k ≡ p k
passing_listed p a zero k l m = absurd (omega arith)
passing_listed p a (suc n) k l m = elim (cases_eq k a) [
  | inl is ↦ rw is (here (cases_Bool (p a)))
  | inr ne ↦
      let rest : is_listed (filter p (range_with_len (a + 1) n)) k ≡ p k =
      passing_listed p (a + 1) n k (omega arith) (omega arith) in
      let not_a : eqb k a ≡ false = ne_eqb k a ne in
      elim (cases_Bool (p a)) [ inl on ↦ rw (on, not_a) rest | inr off ↦ rw off rest ]
]
  where
    here : (p a ≡ true) ⊎ (p a ≡ false) → is_listed (filter p (range_with_len a (suc n))) a ≡ p a
    here (inl on) =
        rw on (or_left (eqb a a) (is_listed (filter p (range_with_len (a + 1) n)) a) (eq-eqb a a refl))
    here (inr off) = rw off (passing_absent p (a + 1) n a (omega arith))

-- an increasing list of pairs has none twice
later_absent : (p : ℕ × ℕ) (ps : List (ℕ × ℕ)) → AllByRecursion (λ q. pair_lt p q ≡ true) ps → among p ps ≡ false
later_absent p [] h = refl
later_absent p (q ∷ qs) h =
    or_from (pair_eq p q) (among p qs)
    (false_from_ne_true (pair_eq p q) (λ e. pair_lt-irreflexive p q h.0 (pair_eq-true p q e))) (later_absent p qs h.1)

pub rising_once : (ps : List (ℕ × ℕ)) → Rising ps → Once ps
rising_once [] h = tt
rising_once (p ∷ ps) h = (later_absent p ps h.0, rising_once ps h.1)
