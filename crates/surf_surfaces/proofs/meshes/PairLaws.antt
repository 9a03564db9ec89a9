-- Laws of unordered pairs, of their order, and of sorted lists of them.
use Rattle.surf_surfaces.proofs.Common.{◌≡◌, ℕ, ◌<◌, true, false, ◌&&◌, eqb, ltb, List, [], ◌∷◌, ◌⊎◌, refl, sym, ap, ◌∙◌, arith, inl, inr, AllByRecursion, eq-eqb, eqb-true, ltb-true, lt-ltb, le-ltb, cases_order, cases_lt, cases_Bool, and_parts, false_from_ne_true, or_cases, or_right, true≢false, pair_of, pair_eq, pair_lt, insert_pair, sorted_pairs}

pub pair_same : (p q : ℕ × ℕ) → p.0 ≡ q.0 → p.1 ≡ q.1 → p ≡ q
pair_same p q a b = λ i. (a i, b i)

pub pair_eq-true : (p q : ℕ × ℕ) → pair_eq p q ≡ true → p ≡ q
pair_eq-true p q h =
    let parts = and_parts (eqb p.0 q.0) (eqb p.1 q.1) h in
    pair_same p q (eqb-true p.0 q.0 parts.0) (eqb-true p.1 q.1 parts.1)

pub pair_eq-self : (p : ℕ × ℕ) → pair_eq p p ≡ true
pair_eq-self p = rw (eq-eqb p.0 p.0 refl, eq-eqb p.1 p.1 refl)

pub pair_eq-same : (p q : ℕ × ℕ) → p ≡ q → pair_eq p q ≡ true
pair_eq-same p q e = rw e (pair_eq-self q)

pub pair_eq-other : (p q : ℕ × ℕ) → (p ≡ q → ⊥) → pair_eq p q ≡ false
pair_eq-other p q h = false_from_ne_true (pair_eq p q) (λ e. h (pair_eq-true p q e))

pub pair_eq_comm : (p q : ℕ × ℕ) → pair_eq p q ≡ pair_eq q p
pair_eq_comm p q = elim (cases_Bool (pair_eq p q)) [
  | inl e ↦ e ∙ sym (pair_eq-same q p (sym (pair_eq-true p q e)))
  | inr e ↦ e ∙ sym (pair_eq-other q p (λ same. true≢false (sym (pair_eq-same p q (sym same)) ∙ e)))
]

-- what holds of both ends of a side holds of both ends of its pair
pub pair_of_both : (P : ℕ → Type 0) (s : ℕ × ℕ) → P s.0 × P s.1 → P (pair_of s).0 × P (pair_of s).1
pair_of_both P s h =
    elim (cases_lt s.0 s.1) [ inl lt ↦ rw (lt-ltb s.0 s.1 lt) h | inr ge ↦ rw (le-ltb s.0 s.1 ge) (h.1, h.0) ]

-- what the order of pairs says
pub pair_lt-cases : (p q : ℕ × ℕ) → pair_lt p q ≡ true → (p.0 < q.0) ⊎ ((p.0 ≡ q.0) × (p.1 < q.1))
pair_lt-cases p q h = elim (or_cases (ltb p.0 q.0) (eqb p.0 q.0 && ltb p.1 q.1) h) [
  | inl a ↦ inl (ltb-true p.0 q.0 a)
  | inr b ↦ let parts = and_parts (eqb p.0 q.0) (ltb p.1 q.1) b in
      inr (eqb-true p.0 q.0 parts.0, ltb-true p.1 q.1 parts.1)
]

pub pair_lt-first : (p q : ℕ × ℕ) → p.0 < q.0 → pair_lt p q ≡ true
pair_lt-first p q h = rw (lt-ltb p.0 q.0 h)

pub pair_lt-second : (p q : ℕ × ℕ) → p.0 ≡ q.0 → p.1 < q.1 → pair_lt p q ≡ true
pair_lt-second p q e h = or_right (ltb p.0 q.0) (eqb p.0 q.0 && ltb p.1 q.1) (rw (eq-eqb p.0 q.0 e, lt-ltb p.1 q.1 h))

pub pair_lt-irreflexive : (p q : ℕ × ℕ) → pair_lt p q ≡ true → p ≡ q → ⊥
pair_lt-irreflexive p q h e = elim (pair_lt-cases p q h) [
  | inl a ↦ let f : p.0 ≡ q.0 = ap (λ (r : ℕ × ℕ). r.0) e in omega arith
  | inr b ↦ let f : p.1 ≡ q.1 = ap (λ (r : ℕ × ℕ). r.1) e in omega arith
]

pub pair_lt-trans : (p q r : ℕ × ℕ) → pair_lt p q ≡ true → pair_lt q r ≡ true → pair_lt p r ≡ true
pair_lt-trans p q r h k = elim (pair_lt-cases p q h) [
  | inl a ↦ elim (pair_lt-cases q r k) [
    | inl b ↦ pair_lt-first p r (omega arith)
    | inr b ↦ pair_lt-first p r (omega arith)
  ]
  | inr a ↦ elim (pair_lt-cases q r k) [
    | inl b ↦ pair_lt-first p r (omega arith)
    | inr b ↦ pair_lt-second p r (omega arith) (omega arith)
  ]
]

pub pair_lt-total : (p q : ℕ × ℕ) → pair_lt p q ≡ false → pair_eq p q ≡ false → pair_lt q p ≡ true
pair_lt-total p q h n = elim (cases_order p.0 q.0) [
  | inl e ↦ elim (cases_order p.1 q.1) [
    | inl f ↦ absurd (true≢false (sym (pair_eq-same p q (pair_same p q e f)) ∙ n))
    | inr o ↦ elim o [
      | inl lt ↦ absurd (true≢false (sym (pair_lt-second p q e lt) ∙ h))
      | inr gt ↦ pair_lt-second q p (sym e) gt
    ]
  ]
  | inr o ↦ elim o [
    | inl lt ↦ absurd (true≢false (sym (pair_lt-first p q lt) ∙ h))
    | inr gt ↦ pair_lt-first q p gt
  ]
]

-- each pair is before all later ones
abbrev pub Rising : List (ℕ × ℕ) → Type 0
Rising [] = Unit {0}
Rising (p ∷ rest) = AllByRecursion (λ q. pair_lt p q ≡ true) rest × Rising rest

all_weaker : (P Q : ℕ × ℕ → Type 0) → ((p : ℕ × ℕ) → P p → Q p) → (xs : List (ℕ × ℕ)) → AllByRecursion P xs →
    AllByRecursion Q xs
all_weaker P Q f [] h = tt
all_weaker P Q f (x ∷ xs) h = (f x h.0, all_weaker P Q f xs h.1)

insert_pair-all : (P : ℕ × ℕ → Type 0) (p : ℕ × ℕ) (xs : List (ℕ × ℕ)) → P p → AllByRecursion P xs →
    AllByRecursion P (insert_pair p xs)
insert_pair-all P p [] here h = (here, tt)
insert_pair-all P p (q ∷ rest) here h = elim (cases_Bool (pair_lt p q)) [
  | inl lt ↦ rw lt (here, h)
  | inr above ↦ rw above (elim (cases_Bool (pair_eq p q)) [
    | inl eq ↦ rw eq h
    | inr ne ↦ rw ne (h.0, insert_pair-all P p rest here h.1)
  ])
]

pub insert_pair-rises : (p : ℕ × ℕ) (xs : List (ℕ × ℕ)) → Rising xs → Rising (insert_pair p xs)
insert_pair-rises p [] h = (tt, tt)
insert_pair-rises p (q ∷ rest) h = elim (cases_Bool (pair_lt p q)) [
  | inl lt ↦ rw lt (
    (
      lt,
      all_weaker (λ r. pair_lt q r ≡ true) (λ r. pair_lt p r ≡ true)
          (λ r k. pair_lt-trans p q r lt k) rest h.0,
    ),
    h,
  )
  | inr above ↦ rw above (elim (cases_Bool (pair_eq p q)) [
    | inl eq ↦ rw eq h
    | inr ne ↦ rw ne (
      insert_pair-all (λ r. pair_lt q r ≡ true) p rest (pair_lt-total p q above ne) h.0,
      insert_pair-rises p rest h.1,
    )
  ])
]

pub sorted_pairs-rise : (xs : List (ℕ × ℕ)) → Rising (sorted_pairs xs)
sorted_pairs-rise [] = tt
sorted_pairs-rise (x ∷ xs) = insert_pair-rises x (sorted_pairs xs) (sorted_pairs-rise xs)
