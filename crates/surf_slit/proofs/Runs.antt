-- Runs of places around a vertex between cuts.
use Rattle.surf_slit.proofs.Common.{◌≡◌, ◌≢◌, ℕ, zero, suc, ◌+◌, ◌-◌, ◌<◌, ◌≤◌, ◌↔◌, max, inl, inr, sym, refl, subst, ap, ◌∙◌, cond, eqb, Bool, true, false, arith, ne_eqb, cases_eq, cases_lt, cases_Bool, eq-eqb, both_ways, lt-ltb, le-ltb, le-leb, lt-leb, cases_order, count_below, Joined, here, over, after, ◌⊎◌, joined_trans, joined_sym, run_of}
use Rattle.std.proofs.Common.{leb as nat_leb}
use Rattle.surf_z2.proofs.Counting.{passes, fails, no_fall_to, passed_onto}

-- Around n places: one is next to the other, and no cut is between them. The test says whether a cut is behind a place.
abbrev pub Linked : ℕ → (ℕ → Bool) → ℕ → ℕ → Type 0
Linked n cut i j = (k : ℕ) × (k < n) × (cut k ≡ false) × (((i ≡ k) × (j ≡ after n k)) ⊎ ((i ≡ after n k) × (j ≡ k)))

-- where the count stands still nothing passes
still : (p : ℕ → Bool) (i j k : ℕ) → count_below i p ≡ count_below j p → i ≤ k → k < j → p k ≡ false
still p i j k same a b = elim (cases_Bool (p k)) [
  | inr e ↦ e
  | inl e ↦ absurd (omega (arith, passes p k e, no_fall_to p i k a, no_fall_to p (suc k) j (omega arith)))
]

after_next : (n k : ℕ) → k + 1 < n → after n k ≡ k + 1
after_next n k h = rw (lt-ltb (k + 1) n h) refl

after_last : (n k : ℕ) → n ≤ k + 1 → after n k ≡ 0
after_last n k h = rw (le-ltb (k + 1) n h) refl

module _ (n : ℕ) (cut : ℕ → Bool) where
  pub link_turned : (i j : ℕ) → Linked n cut i j → Linked n cut j i
  link_turned i j l = (l.0, l.1, l.2, elim l.3 [ inl o ↦ inr (o.1, o.0) | inr o ↦ inl (o.1, o.0) ])

  pub back_along : {i j : ℕ} → Joined (Linked n cut) i j → Joined (Linked n cut) j i
  back_along p = joined_sym link_turned p

  pub linked_next : (k : ℕ) → k < n → cut k ≡ false → Joined (Linked n cut) k (after n k)
  linked_next k h f = over (k, h, f, inl (refl, refl)) here

  -- up from a place
  chain_by : (i d : ℕ) → i + d < n → ((k : ℕ) → i ≤ k → k < i + d → cut k ≡ false) → Joined (Linked n cut) i (i + d)
  chain_by i zero h free = let z : i ≡ i + 0 = omega arith in subst (λ j. Joined (Linked n cut) i j) z here
  chain_by i (suc d) h free =
      let before = chain_by i d (omega arith) (λ k a b. free k a (omega arith)) in
      let z : i + d + 1 ≡ i + suc d = omega arith in
      let lt : i + d + 1 < n = omega arith in
      joined_trans before (subst (λ j. Joined (Linked n cut) (i + d) j) (after_next n (i + d) lt ∙ z) (linked_next (i + d) (omega arith) (free (i + d) (omega arith) (omega arith))))

  pub chain : (i j : ℕ) → i ≤ j → j < n → ((k : ℕ) → i ≤ k → k < j → cut k ≡ false) → Joined (Linked n cut) i j
  chain i j le h free =
      let s : i + (j - i) ≡ j = omega arith in
      subst (λ j. Joined (Linked n cut) i j) s (chain_by i (j - i) (omega arith) (λ k a b. free k a (omega arith)))

  -- round from a place to the first one
  pub chain_round : (i : ℕ) → i < n → ((k : ℕ) → i ≤ k → k < n → cut k ≡ false) → Joined (Linked n cut) i 0
  chain_round i h free =
      let up = chain i (n - 1) (omega arith) (omega arith) (λ k a b. free k a (omega arith)) in
      let last : n ≤ n - 1 + 1 = omega arith in
      joined_trans up (subst (λ j. Joined (Linked n cut) (n - 1) j) (after_last n (n - 1) last) (linked_next (n - 1) (omega arith) (free (n - 1) (omega arith) (omega arith))))

  abbrev before : ℕ → ℕ
  before k = count_below k cut

  run_wraps : (k : ℕ) → before k ≡ before n → run_of n cut k ≡ 0
  run_wraps k e = rw (eq-eqb (before k) (before n) e) refl

  run_counts : (k : ℕ) → before k ≢ before n → run_of n cut k ≡ before k
  run_counts k e = rw (ne_eqb (before k) (before n) e) refl

  pub run_first : run_of n cut 0 ≡ 0
  run_first = elim (cases_eq (before 0) (before n)) [ inl e ↦ run_wraps 0 e | inr e ↦ run_counts 0 e ]

  pub run_below : (k : ℕ) → k ≤ n → run_of n cut k < max 1 (before n)
  run_below k h = elim (cases_eq (before k) (before n)) [
    | inl e ↦ rw (run_wraps k e) (omega arith)
    | inr e ↦ rw (run_counts k e) (omega (arith, no_fall_to cut k n h))
  ]

  pub run_used : (l : ℕ) → 0 < n → l < max 1 (before n) → (k : ℕ) × (k < n) × (run_of n cut k ≡ l)
  run_used l some h = elim (cases_eq l 0) [
    | inl e ↦ (0, some, run_first ∙ sym e)
    | inr ne ↦
        let k = passed_onto cut n l (omega arith) in
        let e : before k.0 ≡ l = k.3 in
        let a : k.0 < n = k.1 in
        (k.0, k.1, run_counts k.0 (λ same. omega arith) ∙ e)
  ]

  -- a link joins places of one run
  run_linked : (k : ℕ) → k < n → cut k ≡ false → run_of n cut k ≡ run_of n cut (after n k)
  run_linked k h free = elim (cases_lt (k + 1) n) [
    | inl lt ↦
        let same : before (suc k) ≡ before k = fails cut k free in
        let s : suc k ≡ k + 1 = omega arith in
        rw (after_next n k lt, ← s) (let f : ℕ → ℕ = λ c. cond (eqb c (before n)) 0 c in ap f (sym same))
    | inr ge ↦
        let s : suc k ≡ n = omega arith in
        let same : before k ≡ before n = sym (fails cut k free) ∙ ap before s in
        rw (after_last n k ge) (run_wraps k same ∙ sym run_first)
  ]

  pub runs_along : {i j : ℕ} → Joined (Linked n cut) i j → run_of n cut i ≡ run_of n cut j
  runs_along here = refl
  runs_along (over {a = x} {b = y} l p) = elim l.3 [
    | inl o ↦ ap (run_of n cut) o.0 ∙ run_linked l.0 l.1 l.2 ∙ ap (run_of n cut) (sym o.1) ∙ runs_along p
    | inr o ↦ ap (run_of n cut) o.0 ∙ sym (run_linked l.0 l.1 l.2) ∙ ap (run_of n cut) (sym o.1) ∙ runs_along p
  ]

  same_count : (i j : ℕ) → i ≤ j → j < n → before i ≡ before j → Joined (Linked n cut) i j
  same_count i j le h e = chain i j le h (λ k a b. still cut i j k e a b)

  over_end : (i j : ℕ) → i < n → j < n → before i ≡ before n → before j ≡ 0 → Joined (Linked n cut) i j
  over_end i j h g e z =
      joined_trans (chain_round i h (λ k a b. still cut i n k e a b)) (chain 0 j (omega arith) g (λ k a b. still cut 0 j k (sym z) a b))

  either_way : (i j : ℕ) → i < n → j < n → before i ≡ before j → Joined (Linked n cut) i j
  either_way i j h g e = elim (cases_lt j i) [
    | inl lt ↦ back_along (same_count j i (omega arith) h (sym e))
    | inr le ↦ same_count i j le g e
  ]

  pub runs_join : (i j : ℕ) → i < n → j < n → run_of n cut i ≡ run_of n cut j → Joined (Linked n cut) i j
  runs_join i j h g e = elim (cases_eq (before i) (before n)) [
    | inl a ↦ elim (cases_eq (before j) (before n)) [
      | inl b ↦ either_way i j h g (a ∙ sym b)
      | inr b ↦ over_end i j h g a (sym (run_counts j b) ∙ sym e ∙ run_wraps i a)
    ]
    | inr a ↦ elim (cases_eq (before j) (before n)) [
      | inl b ↦ back_along (over_end j i g h b (sym (run_counts i a) ∙ e ∙ run_wraps j b))
      | inr b ↦ either_way i j h g (sym (run_counts i a) ∙ e ∙ run_counts j b)
    ]
  ]

-- One more cut, at the last place: the places up to the next cut get a label of their own.
module _ (n q fresh : ℕ) (old new : ℕ → Bool) (label label' : ℕ → ℕ)
    (last_old : old (n - 1) ≡ false) (last_new : new (n - 1) ≡ true) (rest : (k : ℕ) → k + 1 < n → new k ≡ old k)
    (agree : (i j : ℕ) → i < n → j < n → (label i ≡ label j) ↔ Joined (Linked n old) i j) where
  not_last : (k : ℕ) → k < n → new k ≡ false → k + 1 < n
  not_last k h f = elim (cases_lt (k + 1) n) [
    | inl lt ↦ lt
    | inr ge ↦ let e : k ≡ n - 1 = omega arith in absurd (both_ways (new (n - 1)) (subst (λ k. new k ≡ false) e f) last_new)
  ]

  -- the only cut: nothing changes
  pub closed_agree : 0 < n → ((k : ℕ) → k + 1 < n → new k ≡ false) → (i j : ℕ) → i < n → j < n → (label i ≡ label j) ↔ Joined (Linked n new) i j
  closed_agree some free i j h g =
      let to_last : (i : ℕ) → i < n → Joined (Linked n new) i (n - 1) = λ i h. chain n new i (n - 1) (omega arith) (omega arith) (λ k a b. free k (omega arith)) in
      let was_last : (i : ℕ) → i < n → Joined (Linked n old) i (n - 1) = λ i h. chain n old i (n - 1) (omega arith) (omega arith) (λ k a b. sym (rest k (omega arith)) ∙ free k (omega arith)) in (
        (λ e. joined_trans (to_last i h) (back_along n new (to_last j g))),
        (λ p. (agree i j h g).1 (joined_trans (was_last i h) (back_along n old (was_last j g)))),
      )

  module _ (q_in : q + 1 < n) (q_cut : new q ≡ true) (free : (k : ℕ) → k < q → new k ≡ false)
      (is_new : (k : ℕ) → k < n → label k ≢ fresh) (split : (k : ℕ) → k ≤ q → label' k ≡ fresh) (kept : (k : ℕ) → q < k → k < n → label' k ≡ label k) where
    -- a place that is split off goes to the last one
    abbrev moved : ℕ → ℕ
    moved k = cond (nat_leb k q) (n - 1) k

    moved_low : (k : ℕ) → k ≤ q → moved k ≡ n - 1
    moved_low k h = rw (le-leb k q h) refl

    moved_high : (k : ℕ) → q < k → moved k ≡ k
    moved_high k h = rw (lt-leb k q h) refl

    step_moved : (k : ℕ) → k < n → old k ≡ false → Joined (Linked n new) (moved k) (moved (after n k))
    step_moved k h f = elim (cases_lt (k + 1) n) [
      | inl lt ↦ rw (after_next n k lt) (elim (cases_order k q) [
        | inl e ↦ absurd (both_ways (new q) (subst (λ k. new k ≡ false) e (rest k lt ∙ f)) q_cut)
        | inr o ↦ elim o [
          | inl low ↦ let z : k + 1 ≤ q = omega arith in rw (moved_low k (omega arith), moved_low (k + 1) z) here
          | inr high ↦ rw (moved_high k high, moved_high (k + 1) (omega arith)) (subst (λ j. Joined (Linked n new) k j) (after_next n k lt) (linked_next n new k h (rest k lt ∙ f)))
        ]
      ])
      | inr ge ↦
          let e : k ≡ n - 1 = omega arith in
          let high : q < k = omega arith in
          let low : 0 ≤ q = omega arith in
          rw (after_last n k ge, moved_high k high, moved_low 0 low, e) here
    ]

    all_moved : {i j : ℕ} → Joined (Linked n old) i j → Joined (Linked n new) (moved i) (moved j)
    all_moved here = here
    all_moved (over {a = x} {b = y} l p) = elim l.3 [
      | inl o ↦ joined_trans (subst (λ x. Joined (Linked n new) (moved x) (moved y)) (sym o.0) (subst (λ y. Joined (Linked n new) (moved l.0) (moved y)) (sym o.1) (step_moved l.0 l.1 l.2))) (all_moved p)
      | inr o ↦ joined_trans (back_along n new (subst (λ x. Joined (Linked n new) (moved y) (moved x)) (sym o.0) (subst (λ y. Joined (Linked n new) (moved y) (moved (after n l.0))) (sym o.1) (step_moved l.0 l.1 l.2)))) (all_moved p)
    ]

    -- a link that is left joins places of one label
    one_label : (k : ℕ) → k < n → new k ≡ false → label' k ≡ label' (after n k)
    one_label k h f =
        let lt = not_last k h f in
        rw (after_next n k lt) (elim (cases_order k q) [
          | inl e ↦ absurd (both_ways (new q) (subst (λ k. new k ≡ false) e f) q_cut)
          | inr o ↦ elim o [
            | inl low ↦ split k (omega arith) ∙ sym (split (k + 1) (omega arith))
            | inr high ↦
                let was = subst (λ j. Joined (Linked n old) k j) (after_next n k lt) (linked_next n old k h (sym (rest k lt) ∙ f)) in
                kept k high h ∙ (agree k (k + 1) h lt).1 was ∙ sym (kept (k + 1) (omega arith) lt)
          ]
        ])

    labels_along : {i j : ℕ} → Joined (Linked n new) i j → label' i ≡ label' j
    labels_along here = refl
    labels_along (over {a = x} {b = y} l p) = elim l.3 [
      | inl o ↦ ap label' o.0 ∙ one_label l.0 l.1 l.2 ∙ ap label' (sym o.1) ∙ labels_along p
      | inr o ↦ ap label' o.0 ∙ sym (one_label l.0 l.1 l.2) ∙ ap label' (sym o.1) ∙ labels_along p
    ]

    low_joined : (i j : ℕ) → i ≤ j → j ≤ q → Joined (Linked n new) i j
    low_joined i j le h = chain n new i j le (omega arith) (λ k a b. free k (omega arith))

    labels_join : (i j : ℕ) → i < n → j < n → label' i ≡ label' j → Joined (Linked n new) i j
    labels_join i j h g e = elim (cases_lt q i) [
      | inl a ↦ elim (cases_lt q j) [
        | inl b ↦
            let was = (agree i j h g).0 (sym (kept i a h) ∙ e ∙ kept j b g) in
            subst (λ i. Joined (Linked n new) i j) (moved_high i a) (subst (λ j. Joined (Linked n new) (moved i) j) (moved_high j b) (all_moved was))
        | inr b ↦ absurd (is_new i h (sym (kept i a h) ∙ e ∙ split j b))
      ]
      | inr a ↦ elim (cases_lt q j) [
        | inl b ↦ absurd (is_new j g (sym (kept j b g) ∙ sym e ∙ split i a))
        | inr b ↦ elim (cases_lt j i) [
          | inl lt ↦ back_along n new (low_joined j i (omega arith) a)
          | inr le ↦ low_joined i j le b
        ]
      ]
    ]

    pub split_agree : (i j : ℕ) → i < n → j < n → (label' i ≡ label' j) ↔ Joined (Linked n new) i j
    split_agree i j h g = (labels_join i j h g, λ p. labels_along p)
