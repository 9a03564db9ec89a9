-- Numbers without three of them, counted in order.
use Rattle.surf_surfaces.proofs.Common.{◌≡◌, ◌≢◌, ℕ, ◌+◌, ◌-◌, ◌<◌, ◌≤◌, Bool, true, false, not, ◌&&◌, ◌||◌, eqb, [], ◌∷◌, ◌⊎◌, refl, sym, ap, ◌∙◌, arith, inl, inr, list_any, eq-eqb, ne_eqb, cases_eq, cases_lt, cases_order, true≢false, count_below, count_below-all, count_below-same, count_below-without}
use Rattle.surf_z2.proofs.Counting.{passed_up, passed_onto}
use Rattle.surf_tori.specs.ConnectedSum.{sum_name}
use Rattle.surf_tori.proofs.TriangleLaws.{OneOf}

not_three : (a b c : Bool) → ((not a && not b) && not c) ≡ not (a || (b || (c || false)))
not_three true b c = refl
not_three false true c = refl
not_three false false true = refl
not_three false false false = refl

module _ {a0 a1 a2 : ℕ} (d01 : a0 ≢ a1) (d02 : a0 ≢ a2) (d12 : a1 ≢ a2) where
  abbrev other : ℕ → Bool
  other = λ w. not (list_any (λ c. eqb c w) (a0 ∷ a1 ∷ a2 ∷ []))

  pub which : (v : ℕ) → OneOf v a0 a1 a2 ⊎ ((v ≢ a0) × (v ≢ a1) × (v ≢ a2))
  which v = elim (cases_eq v a0) [
    | inl e ↦ inl (inl e)
    | inr x ↦ elim (cases_eq v a1) [
      | inl e ↦ inl (inr (inl e))
      | inr y ↦ elim (cases_eq v a2) [ inl e ↦ inl (inr (inr e)) | inr z ↦ inr (x, y, z) ]
    ]
  ]

  other_is : (v : ℕ) → v ≢ a0 → v ≢ a1 → v ≢ a2 → other v ≡ true
  other_is v x y z = rw (ne_eqb a0 v (λ e. x (sym e)), ne_eqb a1 v (λ e. y (sym e)), ne_eqb a2 v (λ e. z (sym e)))

  apart_from : (v : ℕ) → other v ≡ true → (v ≢ a0) × (v ≢ a1) × (v ≢ a2)
  apart_from v h = (
    (λ e. true≢false (sym h ∙ rw (eq-eqb a0 v (sym e)))),
    (λ e. true≢false (sym h ∙ second (eqb a0 v) (eqb a1 v) (eqb a2 v) (eq-eqb a1 v (sym e)))),
    (λ e. true≢false (sym h ∙ third (eqb a0 v) (eqb a1 v) (eqb a2 v) (eq-eqb a2 v (sym e)))),
  )
    where
      second : (x y z : Bool) → y ≡ true → not (x || (y || (z || false))) ≡ false
      second true y z e = refl
      second false y z e = rw e

      third : (x y z : Bool) → z ≡ true → not (x || (y || (z || false))) ≡ false
      third true y z e = refl
      third false true z e = refl
      third false false z e = rw e

  -- all but three
  rank_total : (n : ℕ) → a0 < n → a1 < n → a2 < n → count_below n other + 3 ≡ n
  rank_total n x y z =
      let one = count_below-without n a0 (λ k. true) x refl in
      let second : not (eqb a0 a1) ≡ true = rw (ne_eqb a0 a1 d01) in
      let two = count_below-without n a1 (λ k. not (eqb a0 k)) y second in
      let third : (not (eqb a0 a2) && not (eqb a1 a2)) ≡ true = rw (ne_eqb a0 a2 d02, ne_eqb a1 a2 d12) in
      let three = count_below-without n a2 (λ k. not (eqb a0 k) && not (eqb a1 k)) z third in
      let same = count_below-same n (λ k. (not (eqb a0 k) && not (eqb a1 k)) && not (eqb a2 k)) other
      (λ k h. not_three (eqb a0 k) (eqb a1 k) (eqb a2 k)) in
      omega (arith, one, two, three, same, count_below-all n)

  module _ (start b0 b1 b2 : ℕ) where
    abbrev pub name : ℕ → ℕ
    name = sum_name start (b0 ∷ b1 ∷ b2 ∷ []) (a0 ∷ a1 ∷ a2 ∷ [])

    pub name_0 : name a0 ≡ b0
    name_0 = rw (eq-eqb a0 a0 refl)

    pub name_1 : name a1 ≡ b2
    name_1 = rw (ne_eqb a1 a0 (λ e. d01 (sym e)), eq-eqb a1 a1 refl)

    pub name_2 : name a2 ≡ b1
    name_2 = rw (ne_eqb a2 a0 (λ e. d02 (sym e)), ne_eqb a2 a1 (λ e. d12 (sym e)), eq-eqb a2 a2 refl)

    name_other : (v : ℕ) → v ≢ a0 → v ≢ a1 → v ≢ a2 → name v ≡ start + count_below v other
    name_other v x y z = rw (ne_eqb v a0 x, ne_eqb v a1 y, ne_eqb v a2 z)

    pub name_fresh : (v : ℕ) → (start ≤ name v) ⊎ OneOf v a0 a1 a2
    name_fresh v = elim (which v) [
      | inl o ↦ inr o
      | inr n ↦ let e = name_other v n.0 n.1 n.2 in inl (omega (arith, e))
    ]

    module _ (in_0 : b0 < start) (in_1 : b1 < start) (in_2 : b2 < start) (e01 : b0 ≢ b1) (e02 : b0 ≢ b2)
        (e12 : b1 ≢ b2) where
      corner_low : (v : ℕ) → OneOf v a0 a1 a2 → name v < start
      corner_low v o = elim o [
        | inl e ↦ let n : name v ≡ b0 = ap name e ∙ name_0 in omega arith
        | inr p ↦ elim p [
          | inl e ↦ let n : name v ≡ b2 = ap name e ∙ name_1 in omega arith
          | inr e ↦ let n : name v ≡ b1 = ap name e ∙ name_2 in omega arith
        ]
      ]

      pub name_injective : (u v : ℕ) → name u ≡ name v → u ≡ v
      name_injective u v e = elim (which u) [
        | inl o ↦ elim (which v) [
          | inl p ↦ corners o p
          | inr n ↦
              let low = corner_low u o in
              let high = name_other v n.0 n.1 n.2 in
              absurd (omega (arith, low, high, e))
        ]
        | inr m ↦
            let here = name_other u m.0 m.1 m.2 in
            elim (which v) [
              | inl p ↦ let low = corner_low v p in absurd (omega (arith, low, here, e))
              | inr n ↦
                  let there = name_other v n.0 n.1 n.2 in
                  let same : count_below u other ≡ count_below v other = omega (arith, here, there, e) in
                  elim (cases_order u v) [
                    | inl is ↦ is
                    | inr o ↦ elim o [
                      | inl lt ↦ let r = passed_up other u v lt (other_is u m.0 m.1 m.2) in
                          absurd (omega (arith, r, same))
                      | inr gt ↦ let r = passed_up other v u gt (other_is v n.0 n.1 n.2) in
                          absurd (omega (arith, r, same))
                    ]
                  ]
            ]
      ]
        where
          corners : OneOf u a0 a1 a2 → OneOf v a0 a1 a2 → u ≡ v
          corners o p =
              let differ : (p q x y : ℕ) → u ≡ p → v ≡ q → name p ≡ x → name q ≡ y → x ≢ y → u ≡ v =
              λ p q x y i j m n apart. absurd (apart (sym m ∙ ap name (sym i) ∙ e ∙ ap name j ∙ n)) in
              elim o [
                | inl x ↦ elim p [
                  | inl y ↦ x ∙ sym y
                  | inr q ↦ elim q [
                    | inl y ↦ differ a0 a1 b0 b2 x y name_0 name_1 e02
                    | inr y ↦ differ a0 a2 b0 b1 x y name_0 name_2 e01
                  ]
                ]
                | inr r ↦ elim r [
                  | inl x ↦ elim p [
                    | inl y ↦ differ a1 a0 b2 b0 x y name_1 name_0 (λ t. e02 (sym t))
                    | inr q ↦ elim q [
                      | inl y ↦ x ∙ sym y
                      | inr y ↦ differ a1 a2 b2 b1 x y name_1 name_2 (λ t. e12 (sym t))
                    ]
                  ]
                  | inr x ↦ elim p [
                    | inl y ↦ differ a2 a0 b1 b0 x y name_2 name_0 (λ t. e01 (sym t))
                    | inr q ↦ elim q [
                      | inl y ↦ differ a2 a1 b1 b2 x y name_2 name_1 e12
                      | inr y ↦ x ∙ sym y
                    ]
                  ]
                ]
              ]

      module _ (n : ℕ) (first : a0 < n) (second : a1 < n) (third : a2 < n) where
        pub name_in : (v : ℕ) → v < n → name v < start + (n - 3)
        name_in v in' = elim (which v) [
          | inl o ↦ let low = corner_low v o in omega (arith, low)
          | inr m ↦
              let is = name_other v m.0 m.1 m.2 in
              let less = passed_up other v n in' (other_is v m.0 m.1 m.2) in
              let all = rank_total n first second third in
              omega (arith, is, less, all)
        ]

        pub named : (v : ℕ) → v < start + (n - 3) →
            (v < start) ⊎ ((w : ℕ) × (w < n) × (name w ≡ v) × (start ≤ v))
        named v in' = elim (cases_lt v start) [
          | inl low ↦ inl low
          | inr high ↦
              let all = rank_total n first second third in
              let r = passed_onto other n (v - start) (omega (arith, all, high, in')) in
              let apart = apart_from r.0 r.2 in
              let is = name_other r.0 apart.0 apart.1 apart.2 in
              inr (r.0, r.1, omega (arith, is, r.3, high), high)
        ]
