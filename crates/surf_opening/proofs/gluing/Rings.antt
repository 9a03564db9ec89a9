-- A face with different corners: two sides at each corner, and all sides but one hang together.
use Rattle.surf_surfaces.proofs.Common.{AllPairs, ◌≡◌, ◌≢◌, ℕ, zero, suc, ◌+◌, ◌-◌, ◌<◌, ◌≤◌, ◌⊎◌, inl, inr, sym, refl, subst, ap, ◌∙◌, List, length, get_or, arith, cases_lt, cases_order, after, before}
use Rattle.surf_opening.specs.Rim.{Among, along, back}
use Rattle.surf_opening.proofs.gluing.RimWords.{IsCopying, Reaches, here, turn, pass}
use Rattle.surf_opening.proofs.gluing.Reaching.{reaches_onward, reaches_turned}
use Rattle.surf_surfaces.proofs.meshes.SideLaws.{before-below, after-before}
use Rattle.surf_opening.proofs.sides.Polygons.{after_cases}

-- v w are neighbours round the face, at place i or the one after it
abbrev pub OnFace : List ℕ → ℕ → ℕ → Type 0
OnFace face v w = (i : ℕ) × (i < length face) × Among (get_or face i 0) (get_or face (after (length face) i) 0) v w

pub after_below : (n i : ℕ) → 0 < n → after n i < n
after_below n i h = elim (after_cases n i) [ inl k ↦ omega arith | inr k ↦ omega arith ]

after_other : (n i : ℕ) → 3 ≤ n → i < n → after n i ≢ i
after_other n i h g e = elim (after_cases n i) [ inl k ↦ omega arith | inr k ↦ omega arith ]

after_twice : (n i : ℕ) → 3 ≤ n → i < n → i ≢ after n (after n i)
after_twice n i h g e = elim (after_cases n i) [
  | inl k ↦ elim (after_cases n (after n i)) [ inl l ↦ omega arith | inr l ↦ omega arith ]
  | inr k ↦ elim (after_cases n (after n i)) [ inl l ↦ omega arith | inr l ↦ omega arith ]
]

after_one : (n i j : ℕ) → i < n → j < n → after n i ≡ after n j → i ≡ j
after_one n i j g h e = elim (after_cases n i) [
  | inl k ↦ elim (after_cases n j) [ inl l ↦ omega arith | inr l ↦ omega arith ]
  | inr k ↦ elim (after_cases n j) [ inl l ↦ omega arith | inr l ↦ omega arith ]
]

module _ (face : List ℕ) (large : 3 ≤ length face) (distinct : AllPairs (λ u v. u ≢ v) face) where
  abbrev n : ℕ
  n = length face

  abbrev c : ℕ → ℕ
  c i = get_or face i 0

  pub corner_one : (i j : ℕ) → i < length face → j < length face → get_or face i 0 ≡ get_or face j 0 → i ≡ j
  corner_one i j g h e = elim (cases_order i j) [
    | inl k ↦ k
    | inr o ↦ elim o [ inl k ↦ absurd (distinct i j 0 k h e) | inr k ↦ absurd (distinct j i 0 k g (sym e)) ]
  ]

  pub on_turned : {v w : ℕ} → OnFace face v w → OnFace face w v
  on_turned s = (s.0, s.1, elim s.2 [ along e h ↦ back h e | back e h ↦ along h e ])

  pub on_apart : {v w : ℕ} → OnFace face v w → v ≢ w
  on_apart {v} {w} s e =
      let g : s.0 < length face = s.1 in
      elim s.2 [
        | along i j ↦ after_other n s.0 large g
            (corner_one (after n s.0) s.0 (after_below n s.0 (omega arith)) g (sym j ∙ sym e ∙ i))
        | back i j ↦ after_other n s.0 large g
            (corner_one (after n s.0) s.0 (after_below n s.0 (omega arith)) g (sym i ∙ e ∙ j))
      ]

  pub on_other : {v w : ℕ} → OnFace face v w → (y : ℕ) × OnFace face v y × (w ≢ y)
  on_other {v} {w} s =
      let g : s.0 < length face = s.1 in
      let b = before n s.0 in
      let b_below : b < length face = before-below n s.0 g in
      let b_after : after n b ≡ s.0 = after-before n s.0 g in
      let a_below : after n s.0 < length face = after_below n s.0 (omega arith) in
      elim s.2 [
        | along i j ↦ (
          c b,
          (b, b_below, back (i ∙ ap c (sym b_after)) refl),
          λ e. after_twice n b large b_below
              (sym (corner_one (after n s.0) b a_below b_below (sym j ∙ e)) ∙ ap (after n) (sym b_after)),
        )
        | back i j ↦ (
          c (after n (after n s.0)),
          (after n s.0, a_below, along i refl),
          λ e. after_twice n s.0 large g
              (corner_one s.0 (after n (after n s.0)) g (after_below n (after n s.0) (omega arith)) (sym j ∙ e)),
        )
      ]

  pub side_one : (i j : ℕ) → i < length face → j < length face →
      Among (get_or face i 0) (get_or face (after (length face) i) 0) (get_or face j 0)
      (get_or face (after (length face) j) 0) → i ≡ j
  side_one i j g h (along a b) = corner_one i j g h (sym a)
  side_one i j g h (back a b) =
      let k = corner_one j (after n i) h (after_below n i (omega arith)) a in
      let l = corner_one (after n j) i (after_below n j (omega arith)) g b in
      absurd (after_twice n i large g (sym l ∙ ap (after n) k))

  -- v is a corner of each side that it is an end of
  pub on_corner : {v w : ℕ} → OnFace face v w → (i : ℕ) × (i < length face) × (get_or face i 0 ≡ v)
  on_corner s = let g : s.0 < length face = s.1 in elim s.2 [
    | along a b ↦ (s.0, s.1, sym a)
    | back a b ↦ (after n s.0, after_below n s.0 (omega arith), sym a)
  ]

  fore_same : {v w y : ℕ} (i j : ℕ) → i < length face → j < length face → v ≡ c i → w ≡ c (after n i) → v ≡ c j →
      y ≡ c (after n j) → w ≡ y
  fore_same i j g h a b d e = b ∙ ap (λ k. c (after n k)) (corner_one i j g h (sym a ∙ d)) ∙ sym e

  back_same : {v w y : ℕ} (i j : ℕ) → i < length face → j < length face → v ≡ c (after n i) → w ≡ c i →
      v ≡ c (after n j) → y ≡ c j → w ≡ y
  back_same i j g h a b d e =
      b ∙ ap c (after_one n i j g h
      (corner_one (after n i) (after n j) (after_below n i (omega arith)) (after_below n j (omega arith)) (sym a ∙ d)))
      ∙ sym e

  pub on_two : {v w y z : ℕ} → OnFace face v w → OnFace face v y → OnFace face v z → (w ≡ y) ⊎ ((w ≡ z) ⊎ (y ≡ z))
  on_two s t u = elim s.2 [
    | along a b ↦ elim t.2 [
      | along d e ↦ inl (fore_same s.0 t.0 s.1 t.1 a b d e)
      | back d e ↦ elim u.2 [
        | along h k ↦ inr (inl (fore_same s.0 u.0 s.1 u.1 a b h k))
        | back h k ↦ inr (inr (back_same t.0 u.0 t.1 u.1 d e h k))
      ]
    ]
    | back a b ↦ elim t.2 [
      | back d e ↦ inl (back_same s.0 t.0 s.1 t.1 a b d e)
      | along d e ↦ elim u.2 [
        | back h k ↦ inr (inl (back_same s.0 u.0 s.1 u.1 a b h k))
        | along h k ↦ inr (inr (fore_same t.0 u.0 t.1 u.1 d e h k))
      ]
    ]
  ]

  -- all sides but the one at place j are cut sides of f
  module _ (Rim Same : ℕ → ℕ → ℕ → Type 0) (copying : IsCopying Same) (f j : ℕ) (j_below : j < length face)
      (fore : (i : ℕ) → i < length face → i ≢ j → Rim f (get_or face i 0) (get_or face (after (length face) i) 0))
      (rear : (i : ℕ) → i < length face → i ≢ j → Rim f (get_or face (after (length face) i) 0) (get_or face i 0)) where
    -- round to corner j, m + 1 places on
    to_hub : (m i : ℕ) → i < length face → i ≢ j → (i < j → j ≡ i + m + 1) → (j < i → j + length face ≡ i + m + 1) →
        Reaches Rim Same f (c j) (c (before n j)) f (c (after n i)) (c i)
    to_hub zero i g ne up down =
        let a : after n i ≡ j = elim (cases_order i j) [
          | inl k ↦ absurd (ne k)
          | inr o ↦ elim (after_cases n i) [
            | inl l ↦ elim o [ inl k ↦ let u = up k in omega arith | inr k ↦ let u = down k in omega arith ]
            | inr l ↦ elim o [ inl k ↦ let u = up k in omega arith | inr k ↦ let u = down k in omega arith ]
          ]
        ] in
        let b : before n j ≡ i =
        after_one n (before n j) i (before-below n j j_below) g (after-before n j j_below ∙ sym a) in
        subst (λ x. Reaches Rim Same f (c j) (c (before n j)) f (c x) (c i)) (sym a)
        (subst (λ x. Reaches Rim Same f (c j) (c (before n j)) f (c j) (c x)) b here)
    to_hub (suc m) i g ne up down =
        let h : after n i < length face = after_below n i (omega arith) in
        let other : after n i ≢ j = λ e. elim (after_cases n i) [
          | inl l ↦ elim (cases_order i j) [
            | inl k ↦ ne k
            | inr o ↦ elim o [ inl k ↦ let u = up k in omega arith | inr k ↦ let u = down k in omega arith ]
          ]
          | inr l ↦ elim (cases_order i j) [
            | inl k ↦ ne k
            | inr o ↦ elim o [ inl k ↦ let u = up k in omega arith | inr k ↦ let u = down k in omega arith ]
          ]
        ] in
        pass copying.own (fore (after n i) h other) (turn (rear (after n i) h other)
        (to_hub m (after n i) h other
        (λ k. elim (after_cases n i) [
          | inl l ↦ elim (cases_lt i j) [ inl o ↦ let u = up o in omega arith | inr o ↦ omega arith ]
          | inr l ↦ elim (cases_lt j i) [ inl o ↦ let u = down o in omega arith | inr o ↦ omega arith ]
        ])
        (λ k. elim (after_cases n i) [
          | inl l ↦ elim (cases_lt j i) [ inl o ↦ let u = down o in omega arith | inr o ↦ omega arith ]
          | inr l ↦ omega arith
        ])))

    side_to_hub : (i : ℕ) → i < length face → i ≢ j → Reaches Rim Same f (c j) (c (before n j)) f (c (after n i)) (c i)
    side_to_hub i g ne = elim (cases_lt i j) [
      | inl k ↦ to_hub (j - i - 1) i g ne (λ h. omega arith) (λ h. omega arith)
      | inr k ↦ to_hub (j + length face - i - 1) i g ne (λ h. omega arith) (λ h. omega arith)
    ]

    flag_to_hub : {v w : ℕ} (i : ℕ) → i < length face → i ≢ j → Among (c i) (c (after n i)) v w →
        Reaches Rim Same f (c j) (c (before n j)) f v w
    flag_to_hub {v} {w} i g ne (along a b) = subst (λ x. Reaches Rim Same f (c j) (c (before n j)) f x w) (sym a)
        (subst (λ y. Reaches Rim Same f (c j) (c (before n j)) f (c i) y) (sym b)
        (turn (rear i g ne) (side_to_hub i g ne)))
    flag_to_hub {v} {w} i g ne (back a b) = subst (λ x. Reaches Rim Same f (c j) (c (before n j)) f x w) (sym a)
        (subst (λ y. Reaches Rim Same f (c j) (c (before n j)) f (c (after n i)) y) (sym b)
        (side_to_hub i g ne))

    flag_is_cut : {v w : ℕ} (i : ℕ) → i < length face → i ≢ j → Among (c i) (c (after n i)) v w → Rim f v w
    flag_is_cut {v} {w} i g ne (along a b) =
        subst (λ x. Rim f x w) (sym a) (subst (λ y. Rim f (c i) y) (sym b) (fore i g ne))
    flag_is_cut {v} {w} i g ne (back a b) =
        subst (λ x. Rim f x w) (sym a) (subst (λ y. Rim f (c (after n i)) y) (sym b) (rear i g ne))

    pub on_round : {v w x y : ℕ} (i l : ℕ) → i < length face → l < length face → i ≢ j → l ≢ j →
        Among (c i) (c (after n i)) v w → Among (c l) (c (after n l)) x y → Reaches Rim Same f x y f v w
    on_round i l g h ne nl s t =
        reaches_onward (flag_to_hub i g ne s) (reaches_turned copying (flag_is_cut l h nl t) (flag_to_hub l h nl t))
