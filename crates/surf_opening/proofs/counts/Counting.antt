-- How many classes an equivalence has: one number, and one less where two classes become one.
use Rattle.surf_surfaces.proofs.Common.{◌≡◌, ◌≢◌, ℕ, zero, suc, ◌+◌, ◌-◌, ◌<◌, ◌≤◌, ◌⊎◌, inl, inr, sym, refl, subst, ap, ◌∙◌, cond, eqb, ltb, arith, cases_eq, cases_lt, nat_tests}
use Rattle.surf_opening.specs.Numbers.{Numbers}
use Rattle.surf_opening.proofs.gluing.RimWords.{Merged}

-- who is sent to the last place m goes to the place top instead
abbrev Sent : (ℕ → ℕ → Type 0) → ℕ → ℕ → ℕ → ℕ → Type 0
Sent R m top k j = (R k j × (j ≢ top)) ⊎ ((j ≡ top) × R k m)

sent_one : (R : ℕ → ℕ → Type 0) (n m top : ℕ) → ((k l j : ℕ) → k < suc n → l < suc n → R k j → R l j → k ≡ l) →
    (k l j : ℕ) → k < n → l < n → Sent R m top k j → Sent R m top l j → k ≡ l
sent_one R n m top one k l j h i (inl a) (inl b) = one k l j (omega arith) (omega arith) a.0 b.0
sent_one R n m top one k l j h i (inl a) (inr b) = absurd (a.1 b.0)
sent_one R n m top one k l j h i (inr a) (inl b) = absurd (b.1 a.0)
sent_one R n m top one k l j h i (inr a) (inr b) = one k l m (omega arith) (omega arith) a.1 b.1

sent_below : (R : ℕ → ℕ → Type 0) (n m top : ℕ) → top < suc m → R n top →
    ((k : ℕ) → k < suc n → (j : ℕ) × (j < suc m) × R k j) →
    ((k l j : ℕ) → k < suc n → l < suc n → R k j → R l j → k ≡ l) →
    (k : ℕ) → k < n → (j : ℕ) × (j < m) × Sent R m top k j
sent_below R n m top g r sent one k h =
    let s = sent k (omega arith) in
    let differ : s.0 ≢ top = λ e. let i : k ≡ n =
    one k n top (omega arith) (omega arith) (subst (λ j. R k j) e s.2) r in omega arith in
    elim (cases_eq s.0 m) [
      | inl e ↦ let d : top ≢ m = λ i. differ (e ∙ sym i) in (top, omega arith, inr (refl, subst (λ j. R k j) e s.2))
      | inr ne ↦ let i : s.0 < suc m = s.1 in (s.0, omega arith, inl (s.2, differ))
    ]

-- numbers below n sent one to one below m
pub pigeons : (n m : ℕ) (R : ℕ → ℕ → Type 0) → ((k : ℕ) → k < n → (j : ℕ) × (j < m) × R k j) →
    ((k l j : ℕ) → k < n → l < n → R k j → R l j → k ≡ l) → n ≤ m
pigeons zero m R sent one = omega arith
pigeons (suc n) zero R sent one = let s = sent n (omega arith) in let h : s.0 < 0 = s.1 in absurd (omega arith)
pigeons (suc n) (suc m) R sent one =
    let s = sent n (omega arith) in
    let k : n ≤ m = pigeons n m (Sent R m s.0) (sent_below R n m s.0 s.1 s.2 sent one) (sent_one R n m s.0 one) in
    omega arith

numbers_le : {X : Type 0} {Is : X → Type 0} {E : X → X → Type 0} {n m : ℕ} → Numbers Is E n → Numbers Is E m → n ≤ m
numbers_le {X} {Is} {E} {n} {m} a b =
    pigeons n m (λ k j. (x : X) × Is x × (a.number x ≡ k) × (b.number x ≡ j))
    (λ k h. let t = a.onto k h in (b.number t.0, b.below t.0 t.1, (t.0, t.1, t.2, refl)))
    (λ k l j h i s t. sym s.2 ∙ a.agrees s.0 t.0 s.1 t.1 (b.tells s.0 t.0 s.1 t.1 (s.3 ∙ sym t.3)) ∙ t.2)

pub numbers_same : {X : Type 0} {Is : X → Type 0} {E : X → X → Type 0} {n m : ℕ} → Numbers Is E n → Numbers Is E m →
    n ≡ m
numbers_same {n = n} {m = m} a b = let h : n ≤ m = numbers_le a b in let i : m ≤ n = numbers_le b a in omega arith

pub numbers_of : {X : Type 0} {Is : X → Type 0} {E E' : X → X → Type 0} {n : ℕ} →
    ((x y : X) → Is x → Is y → E x y → E' x y) → ((x y : X) → Is x → Is y → E' x y → E x y) → Numbers Is E n →
    Numbers Is E' n
numbers_of to from a = record {
  number = a.number;
  below = a.below;
  onto = a.onto;
  tells = λ x y i j e. to x y i j (a.tells x y i j e);
  agrees = λ x y i j e. a.agrees x y i j (from x y i j e);
}

-- j becomes i, and the numbers above j move down
abbrev renumber : ℕ → ℕ → ℕ → ℕ
renumber i j k = cond (ltb (cond (eqb k j) i k) j) (cond (eqb k j) i k) (cond (eqb k j) i k - 1)

renumber_below : (n i j k : ℕ) → i ≢ j → i < suc n → j < suc n → k < suc n → renumber i j k < n
renumber_below n i j k ne a b c = grind (arith, nat_tests)

renumber_tells : (i j k l : ℕ) → i ≢ j → renumber i j k ≡ renumber i j l →
    (k ≡ l) ⊎ (((i ≡ k) × (j ≡ l)) ⊎ ((j ≡ k) × (i ≡ l)))
renumber_tells i j k l ne e = elim (cases_eq k j) [
  | inl a ↦ elim (cases_eq l j) [
    | inl b ↦ inl (a ∙ sym b)
    | inr b ↦ inr (inr (sym a, grind (arith, nat_tests)))
  ]
  | inr a ↦ elim (cases_eq l j) [
    | inl b ↦ inr (inl (grind (arith, nat_tests), sym b))
    | inr b ↦ inl (grind (arith, nat_tests))
  ]
]

renumber_onto : (n i j t : ℕ) → j < suc n → t < n → (k : ℕ) × (k < suc n) × (renumber i j k ≡ t)
renumber_onto n i j t h g = elim (cases_lt t j) [
  | inl a ↦ (t, omega arith, grind (arith, nat_tests))
  | inr a ↦ (t + 1, omega arith, grind (arith, nat_tests))
]

renumber_same : (i j : ℕ) → i ≢ j → renumber i j i ≡ renumber i j j
renumber_same i j ne = grind (arith, nat_tests)

-- two classes that become one
pub numbers_merged : {X : Type 0} {Is : X → Type 0} {E : X → X → Type 0} {n : ℕ} (a b : X) → Is a → Is b → (E a b → ⊥) →
    Numbers Is E n → (m : ℕ) × (n ≡ m + 1) × Numbers Is (Merged E a b) m
numbers_merged {X} {Is} {E} {n = zero} a b is_a is_b apart s = let h : s.number a < 0 = s.below a is_a in
    absurd (omega arith)
numbers_merged {X} {Is} {E} {n = suc n} a b is_a is_b apart s =
    let i = s.number a in
    let j = s.number b in
    let differ : i ≢ j = λ e. apart (s.tells a b is_a is_b e) in (
      n,
      omega arith,
      record {
        number = λ x. renumber i j (s.number x);
        below = λ x h. renumber_below n i j (s.number x) differ (s.below a is_a) (s.below b is_b) (s.below x h);
        onto = λ k h.
            let t = renumber_onto n i j k (s.below b is_b) h in
            let x = s.onto t.0 t.1 in
            (x.0, x.1, ap (renumber i j) x.2 ∙ t.2);
        tells = λ x y h g e. elim (renumber_tells i j (s.number x) (s.number y) differ e) [
          | inl k ↦ inl (s.tells x y h g k)
          | inr o ↦ elim o [
            | inl k ↦ inr (inl (s.tells a x is_a h k.0, s.tells b y is_b g k.1))
            | inr k ↦ inr (inr (s.tells b x is_b h k.0, s.tells a y is_a g k.1))
          ]
        ];
        agrees = λ x y h g e. elim e [
          | inl k ↦ ap (renumber i j) (s.agrees x y h g k)
          | inr o ↦ elim o [
            | inl k ↦ ap (renumber i j) (sym (s.agrees a x is_a h k.0)) ∙ renumber_same i j differ ∙ ap (renumber i j)
                (s.agrees b y is_b g k.1)
            | inr k ↦ ap (renumber i j) (sym (s.agrees b x is_b h k.0)) ∙ sym (renumber_same i j differ) ∙ ap
                (renumber i j) (s.agrees a y is_a g k.1)
          ]
        ];
      },
    )
