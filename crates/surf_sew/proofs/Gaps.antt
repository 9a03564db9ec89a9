-- How many different origins there are, and the first gap among them.
use Rattle.surf_sew.proofs.Common.{◌≡◌, ◌≢◌, ◌<◌, ◌≤◌, ◌+◌, ◌-◌, ℕ, zero, suc, Bool, true, false, not, eqb, List, [], ◌∷◌, length, get_or, Some, None, refl, sym, ◌∙◌, ap, arith, inl, inr, ◌==◌, ◌&&◌, nat_lt, option_map, get_or-map-range_with_len, length-map-range_with_len, count_below, All-tail, count_below-same, count_below-none, count_below-all, count_below-without, All, list_all, position_or_len, range_with_len, cases_Bool, cases_lt, cases_eq, and_cases, both_ways, ltb-true, ltb-false, eqb-true, eqb-false, eq-eqb, ne_eqb, or_left, or_right, or_from, or_parts, not_from_true, not_from_false, list_any_at, list_any_none, prefix_len-le-length, passes_at_first, fails_before_first, Gap, is_among, different, first_copy, first_copies, HaveCopies, gap_fault}
use Rattle.std.specs.List.{find}

-- the first of the numbers from a on that passes
pub find_range : (p : ℕ → Bool) (a n m : ℕ) → ((k : ℕ) → k < m → p (a + k) ≡ false) → m < n → p (a + m) ≡ true → find p (range_with_len a n) ≡ Some (a + m)
find_range p a zero m fails lt passes = absurd (omega arith)
find_range p a (suc n) zero fails lt passes =
    let here : a + 0 ≡ a = omega arith in
    let yes : p a ≡ true = ap p (sym here) ∙ passes in
    rw yes (ap (λ (k : ℕ). Some k) (sym here))
find_range p a (suc n) (suc m) fails lt passes =
    let here : a + 0 ≡ a = omega arith in
    let no : p a ≡ false = ap p (sym here) ∙ fails 0 (omega arith) in
    let later : find p (range_with_len (a + 1) n) ≡ Some (a + 1 + m) = find_range p (a + 1) n m (λ k l. let e : a + 1 + k ≡ a + suc k = omega arith in ap p e ∙ fails (suc k) (omega arith)) (omega arith) (let e : a + 1 + m ≡ a + suc m = omega arith in ap p e ∙ passes) in
    let e : a + 1 + m ≡ a + suc m = omega arith in
    rw no (later ∙ ap (λ (k : ℕ). Some k) e)

pub find_no_range : (p : ℕ → Bool) (a n : ℕ) → ((k : ℕ) → k < n → p (a + k) ≡ false) → find p (range_with_len a n) ≡ None
find_no_range p a zero fails = refl
find_no_range p a (suc n) fails =
    let here : a + 0 ≡ a = omega arith in
    let no : p a ≡ false = ap p (sym here) ∙ fails 0 (omega arith) in
    rw no (find_no_range p (a + 1) n (λ k l. let e : a + 1 + k ≡ a + suc k = omega arith in ap p e ∙ fails (suc k) (omega arith)))

and_true : (b : Bool) → (b && true) ≡ b
and_true true = refl
and_true false = refl

module _ (v : ℕ) (vs : List ℕ) where
  again : (k : ℕ) → is_among v vs ≡ true → is_among k (v ∷ vs) ≡ is_among k vs
  again k twice = elim (cases_eq v k) [
    | inl e ↦ let there : is_among k vs ≡ true = ap (λ (j : ℕ). is_among j vs) (sym e) ∙ twice in rw (eq-eqb v k e) (sym there)
    | inr ne ↦ rw (ne_eqb v k ne) refl
  ]

  without : (k : ℕ) → is_among v vs ≡ false → (is_among k (v ∷ vs) && not (eqb v k)) ≡ is_among k vs
  without k once = elim (cases_eq v k) [
    | inl e ↦ let nowhere : is_among k vs ≡ false = ap (λ (j : ℕ). is_among j vs) (sym e) ∙ once in rw (eq-eqb v k e) (sym nowhere)
    | inr ne ↦ rw (ne_eqb v k ne) (and_true (is_among k vs))
  ]

  other : (k : ℕ) → k < v → is_among k (v ∷ vs) ≡ is_among k vs
  other k l = rw (ne_eqb v k (λ e. absurd (omega arith))) refl

-- Numbers below a bound are counted as often as they differ, others not at all.
abbrev Counted : ℕ → List ℕ → Type 0
Counted n vs = (count_below n (λ k. is_among k vs) ≤ different vs) × (All (λ v. v < n) vs → different vs ≤ count_below n (λ k. is_among k vs))

one_counted : (n v : ℕ) (vs : List ℕ) → Counted n vs → Counted n (v ∷ vs)
one_counted n v vs later = elim (cases_Bool (is_among v vs)) [
  | inl twice ↦
      let same : count_below n (λ k. is_among k (v ∷ vs)) ≡ count_below n (λ k. is_among k vs) = count_below-same n (λ k. is_among k (v ∷ vs)) (λ k. is_among k vs) (λ k l. again v vs k twice) in
      let fewer : different (v ∷ vs) ≡ different vs = rw twice refl in
      (omega (arith, same, fewer, later.0), λ all. omega (arith, same, fewer, later.1 (All-tail (λ w. w < n) v vs all)))
  | inr once ↦
      let more : different (v ∷ vs) ≡ suc (different vs) = rw once refl in
      elim (cases_lt v n) [
        | inl below ↦
            let taken : count_below n (λ k. is_among k (v ∷ vs)) ≡ suc (count_below n (λ k. is_among k (v ∷ vs) && not (eqb v k))) = count_below-without n v (λ k. is_among k (v ∷ vs)) below (or_left (v == v) (is_among v vs) (eq-eqb v v refl)) in
            let same : count_below n (λ k. is_among k (v ∷ vs) && not (eqb v k)) ≡ count_below n (λ k. is_among k vs) = count_below-same n (λ k. is_among k (v ∷ vs) && not (eqb v k)) (λ k. is_among k vs) (λ k l. without v vs k once) in
            (omega (arith, taken, same, more, later.0), λ all. omega (arith, taken, same, more, later.1 (All-tail (λ w. w < n) v vs all)))
        | inr above ↦
            let same : count_below n (λ k. is_among k (v ∷ vs)) ≡ count_below n (λ k. is_among k vs) = count_below-same n (λ k. is_among k (v ∷ vs)) (λ k. is_among k vs) (λ k l. other v vs k (omega arith)) in
            (omega (arith, same, more, later.0), λ all. let h : v < n = all 0 0 (omega arith) in absurd (omega (arith, h)))
      ]
]

pub count_different : (n : ℕ) (vs : List ℕ) → Counted n vs
count_different n [] = let none : count_below n (λ k. false) ≡ 0 = count_below-none n (λ k. false) (λ k l. refl) in (omega arith, λ all. omega arith)
count_different n (v ∷ vs) = one_counted n v vs (count_different n vs)

pub different_few : (vs : List ℕ) → different vs ≤ length vs
different_few [] = omega arith
different_few (v ∷ vs) = elim (cases_Bool (is_among v vs)) [
  | inl twice ↦ rw twice (omega (arith, different_few vs))
  | inr once ↦ rw once (omega (arith, different_few vs))
]

-- A vertex with a copy is among the origins, and no other.
pub copy_among : (vs : List ℕ) (v : ℕ) → first_copy vs v < length vs → is_among v vs ≡ true
copy_among vs v lt = list_any_at (λ o. o == v) vs (first_copy vs v) 0 lt (passes_at_first (λ o. o == v) vs 0 lt)

pub among_copy : (vs : List ℕ) (v : ℕ) → is_among v vs ≡ true → first_copy vs v < length vs
among_copy vs v among = elim (cases_lt (first_copy vs v) (length vs)) [
  | inl lt ↦ lt
  | inr le ↦ absurd (both_ways (is_among v vs) (list_any_none (λ o. o == v) vs (λ k d lt. fails_before_first (λ o. o == v) vs k d (omega arith))) among)
]

pub copy_origin : (vs : List ℕ) (v : ℕ) → first_copy vs v < length vs → get_or vs (first_copy vs v) 0 ≡ v
copy_origin vs v lt = eqb-true _ _ (passes_at_first (λ o. o == v) vs 0 lt)

-- All numbers below m are among the origins.
module _ (vs : List ℕ) (m : ℕ) (have : HaveCopies vs m) where
  all_below : count_below m (λ k. is_among k vs) ≡ m
  all_below = count_below-same m (λ k. is_among k vs) (λ k. true) have ∙ count_below-all m

  more_below : (d : ℕ) → m ≤ count_below (d + m) (λ k. is_among k vs)
  more_below zero = let e : 0 + m ≡ m = omega arith in rw e (omega (arith, all_below))
  more_below (suc d) = let e : suc d + m ≡ suc (d + m) = omega arith in rw e (omega (arith, more_below d))

  pub one_more : (w : ℕ) → is_among w vs ≡ true → m ≤ w → m < different vs
  one_more w among le = at (w - m) (omega arith)
    where
      at : (d : ℕ) → d + m ≡ w → m < different vs
      at d e =
          let here : is_among (d + m) vs ≡ true = ap (λ (j : ℕ). is_among j vs) e ∙ among in
          let counted : count_below (suc (d + m)) (λ k. is_among k vs) ≡ suc (count_below (d + m) (λ k. is_among k vs)) = rw here (omega arith) in
          omega (arith, counted, more_below d, (count_different (suc (d + m)) vs).0)

  pub no_more : All (λ v. v < m) vs → m ≡ different vs
  no_more all = omega (arith, all_below, (count_different m vs).0, (count_different m vs).1 all)

  pub no_gap : m ≡ different vs → gap_fault vs ≡ None
  no_gap e = ap (option_map Gap) (find_no_range (λ v. not (is_among v vs)) 0 (different vs) (λ k l. not_from_true _ (let z : 0 + k ≡ k = omega arith in ap (λ (j : ℕ). is_among j vs) z ∙ have k (omega arith))))

  pub a_gap : m < different vs → is_among m vs ≡ false → gap_fault vs ≡ Some (Gap m)
  a_gap lt out =
      let found = find_range (λ v. not (is_among v vs)) 0 (different vs) m (λ k l. not_from_true _ (let z : 0 + k ≡ k = omega arith in ap (λ (j : ℕ). is_among j vs) z ∙ have k l)) lt (not_from_false _ (let z : 0 + m ≡ m = omega arith in ap (λ (j : ℕ). is_among j vs) z ∙ out)) in
      let z : 0 + m ≡ m = omega arith in
      ap (option_map Gap) (found ∙ ap (λ (j : ℕ). Some j) z)

some_above : (n : ℕ) (vs : List ℕ) → list_all (λ v. nat_lt v n) vs ≡ false → (w : ℕ) × (is_among w vs ≡ true) × (n ≤ w)
some_above n [] fails = absurd cc
some_above n (v ∷ vs) fails = elim (and_cases (nat_lt v n) (list_all (λ v. nat_lt v n) vs) fails) [
  | inl here ↦ (v, or_left (v == v) (is_among v vs) (eq-eqb v v refl), ltb-false v n here)
  | inr later ↦ let w = some_above n vs later in (w.0, or_right (v == w.0) (is_among w.0 vs) w.1, w.2)
]

pub all_under : (n : ℕ) (vs : List ℕ) → list_all (λ v. nat_lt v n) vs ≡ true → All (λ v. v < n) vs
all_under n vs passes k d l = ltb-true _ _ (Rattle.std.proofs.lemmas.List.Sums.AllPass-from_list_all (λ v. nat_lt v n) vs passes k d l)

-- the table of least copies: its first entry that is no copy
module _ (vs first : List ℕ) (is : first ≡ first_copies vs 0 (length vs)) where
  many : length first ≡ length vs
  many = ap length is ∙ length-map-range_with_len (first_copy vs) 0 (length vs)

  pub entry : (k d : ℕ) → k < length vs → get_or first k d ≡ first_copy vs k
  entry k d l = ap (λ (xs : List ℕ). get_or xs k d) is ∙ get_or-map-range_with_len (first_copy vs) 0 (length vs) k k d l (omega arith)

  pub gap_few : position_or_len (λ c. c == length vs) first ≤ length vs
  gap_few = omega (arith, many, prefix_len-le-length (λ c. not (c == length vs)) first)

  pub gap_have : HaveCopies vs (position_or_len (λ c. c == length vs) first)
  gap_have v l =
      let differs : get_or first v 0 ≢ length vs = eqb-false _ _ (fails_before_first (λ c. c == length vs) first v 0 l) in
      let at : get_or first v 0 ≡ first_copy vs v = entry v 0 (omega (arith, gap_few)) in
      copy_among vs v (let most = prefix_len-le-length (λ o. not (o == v)) vs in elim (cases_eq (first_copy vs v) (length vs)) [ inl e ↦ absurd (differs (at ∙ e)) | inr ne ↦ omega (arith, most, ne) ])

  gap_out : position_or_len (λ c. c == length vs) first < length vs → is_among (position_or_len (λ c. c == length vs) first) vs ≡ false
  gap_out l =
      let none : get_or first (position_or_len (λ c. c == length vs) first) 0 ≡ length vs = eqb-true _ _ (passes_at_first (λ c. c == length vs) first 0 (omega (arith, many))) in
      let at : get_or first (position_or_len (λ c. c == length vs) first) 0 ≡ first_copy vs (position_or_len (λ c. c == length vs) first) = entry _ 0 l in
      Rattle.std.proofs.lemmas.Bool.false_from_ne_true _ (λ among. let h = among_copy vs _ among in absurd (omega (arith, h, none, at)))

  pub all_sewn : list_all (λ v. nat_lt v (position_or_len (λ c. c == length vs) first)) vs ≡ true → position_or_len (λ c. c == length vs) first ≡ different vs
  all_sewn passes = no_more vs _ gap_have (all_under _ vs passes)

  pub not_sewn : list_all (λ v. nat_lt v (position_or_len (λ c. c == length vs) first)) vs ≡ false → gap_fault vs ≡ Some (Gap (position_or_len (λ c. c == length vs) first))
  not_sewn fails =
      let w = some_above _ vs fails in
      let lt : position_or_len (λ c. c == length vs) first < different vs = one_more vs _ gap_have w.0 w.1 w.2 in
      a_gap vs _ gap_have lt (gap_out (omega (arith, different_few vs)))
