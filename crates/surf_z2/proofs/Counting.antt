-- How many numbers below a bound pass a test: one further, and which pass.
use Rattle.surf_z2.proofs.Common.{◌≡◌, ℕ, zero, suc, ◌+◌, ◌-◌, ◌<◌, ◌≤◌, inl, inr, ap, ◌∙◌, cond, Bool, true, false, not, ◌&&◌, eqb, arith, ne_eqb, count_below}
use Rattle.std.proofs.lemmas.Bool.{cases_eq, cases_lt, cases_Bool, cond-true, cond-false, and_from}
use Rattle.surf_z2.proofs.Sums.{count_below-same, count_below-without}
use Rattle.surf_z2.proofs.ParityLaws.{eqb_comm}

-- ---- one further

pub passes : (p : ℕ → Bool) (n : ℕ) → p n ≡ true → count_below (suc n) p ≡ suc (count_below n p)
passes p n e = let h : cond {A = ℕ} (p n) 1 0 ≡ 1 = cond-true {A = ℕ} (p n) 1 0 e in omega arith

pub fails : (p : ℕ → Bool) (n : ℕ) → p n ≡ false → count_below (suc n) p ≡ count_below n p
fails p n e = let h : cond {A = ℕ} (p n) 1 0 ≡ 0 = cond-false {A = ℕ} (p n) 1 0 e in omega arith

-- the same as code goes on
pub count_passes : (p : ℕ → Bool) (n : ℕ) → p n ≡ true → count_below (n + 1) p ≡ count_below n p + 1
count_passes p n e = let z : n + 1 ≡ suc n = omega arith in rw z (omega (arith, passes p n e))

pub count_fails : (p : ℕ → Bool) (n : ℕ) → p n ≡ false → count_below (n + 1) p ≡ count_below n p
count_fails p n e = let z : n + 1 ≡ suc n = omega arith in rw z (fails p n e)

pub count_few : (p : ℕ → Bool) (n : ℕ) → count_below n p ≤ n
count_few p zero = omega arith
count_few p (suc n) = elim (cases_Bool (p n)) [
  | inl e ↦ omega (arith, passes p n e, count_few p n)
  | inr e ↦ omega (arith, fails p n e, count_few p n)
]

-- ---- a count never falls

grows : (p : ℕ → Bool) (n : ℕ) → count_below n p ≤ count_below (suc n) p
grows p n = elim (cases_Bool (p n)) [
  | inl e ↦ let d : count_below (suc n) p ≡ suc (count_below n p) = passes p n e in omega arith
  | inr e ↦ let d : count_below (suc n) p ≡ count_below n p = fails p n e in omega arith
]

no_fall : (p : ℕ → Bool) (k d : ℕ) → count_below k p ≤ count_below (k + d) p
no_fall p k zero = let z : k + 0 ≡ k = omega arith in rw z (omega arith)
no_fall p k (suc d) = let z : k + suc d ≡ suc (k + d) = omega arith in rw z (omega (arith, no_fall p k d, grows p (k + d)))

pub no_fall_to : (p : ℕ → Bool) (i j : ℕ) → i ≤ j → count_below i p ≤ count_below j p
no_fall_to p i j le = let s : i + (j - i) ≡ j = omega arith in omega (arith, no_fall p i (j - i), ap (λ m. count_below m p) s)

-- ---- what passes has a place among what passes

-- past what passes the count is greater
pub passed_up : (p : ℕ → Bool) (k n : ℕ) → k < n → p k ≡ true → count_below k p < count_below n p
passed_up p k n h e = omega (arith, passes p k e, no_fall_to p (suc k) n h)

-- so two that pass and have the same count before them are one
pub passed_one : (p : ℕ → Bool) (k l : ℕ) → p k ≡ true → p l ≡ true → count_below k p ≡ count_below l p → k ≡ l
passed_one p k l e h same = elim (cases_lt k l) [
  | inl a ↦ let c : count_below k p < count_below l p = passed_up p k l a e in absurd (omega arith)
  | inr a ↦ elim (cases_lt l k) [
    | inl b ↦ let c : count_below l p < count_below k p = passed_up p l k b h in absurd (omega arith)
    | inr b ↦ omega arith
  ]
]

-- each number below the count is that before some number that passes
pub passed_onto : (p : ℕ → Bool) (n t : ℕ) → t < count_below n p → (k : ℕ) × (k < n) × (p k ≡ true) × (count_below k p ≡ t)
passed_onto p zero t h = absurd (omega arith)
passed_onto p (suc n) t h = elim (cases_lt t (count_below n p)) [
  | inl a ↦ let i = passed_onto p n t a in let g : i.0 < n = i.1 in (i.0, omega arith, i.2, i.3)
  | inr a ↦ elim (cases_Bool (p n)) [
    | inl e ↦ let c : count_below (suc n) p ≡ suc (count_below n p) = passes p n e in (n, omega arith, e, omega arith)
    | inr ne ↦ let c : count_below (suc n) p ≡ count_below n p = fails p n ne in absurd (omega arith)
  ]
]

-- a number that passes is counted
pub count_some : (n k : ℕ) (p : ℕ → Bool) → k < n → p k ≡ true → 1 ≤ count_below n p
count_some n k p l h =
    let one : count_below n p ≡ suc (count_below n (λ i. p i && not (eqb k i))) = count_below-without n k p l h in
    omega arith

-- and where some are counted, one passes
pub count_found : (n : ℕ) (p : ℕ → Bool) → 1 ≤ count_below n p → (k : ℕ) × (k < n) × (p k ≡ true)
count_found n p h = let k = passed_onto p n 0 (omega arith) in (k.0, k.1, k.2)

-- fewer numbers pass a narrower test
pub count_mono : (n : ℕ) (p q : ℕ → Bool) → ((k : ℕ) → k < n → p k ≡ true → q k ≡ true) →
    count_below n p ≤ count_below n q
count_mono zero p q h = omega arith
count_mono (suc n) p q h =
    let rest : count_below n p ≤ count_below n q = count_mono n p q (λ k l. h k (omega arith)) in
    elim (cases_Bool (p n)) [
      | inl e ↦ omega (arith, passes p n e, passes q n (h n (omega arith) e))
      | inr e ↦ omega (arith, fails p n e, grows q n)
    ]

-- where one is counted, no two pass
pub count_one : (n i k : ℕ) (p : ℕ → Bool) → i < n → k < n → p i ≡ true → p k ≡ true → count_below n p ≡ 1 → i ≡ k
count_one n i k p li lk hi hk one = elim (cases_eq i k) [
  | inl same ↦ same
  | inr differ ↦
      let a : count_below n p ≡ suc (count_below n (λ j. p j && not (eqb i j))) = count_below-without n i p li hi in
      let b : 1 ≤ count_below n (λ j. p j && not (eqb i j)) =
      count_some n k (λ j. p j && not (eqb i j)) lk (and_from (p k) (not (eqb i k)) hk (ap not (ne_eqb i k differ))) in
      absurd (omega arith)
]

-- one less is counted without one
pub count_less : (n i : ℕ) (p : ℕ → Bool) → i < n → p i ≡ true →
    count_below n p ≡ suc (count_below n (λ k. p k && not (eqb k i)))
count_less n i p l h =
    count_below-without n i p l h ∙ ap suc (count_below-same n (λ k. p k && not (eqb i k)) (λ k. p k && not (eqb k i))
    (λ k lk. ap (λ b. p k && not b) (eqb_comm i k)))
