-- Gluing two sides of an edge keeps the rim: each copy on it has two cut sides.
use Rattle.surf_surfaces.proofs.Common.{◌≡◌, ◌≢◌, ℕ, ◌⊎◌, inl, inr, sym, refl, subst, ◌∙◌, cases_eq}
use Rattle.surf_opening.specs.Rim.{Among, along, back}
use Rattle.surf_opening.proofs.gluing.RimWords.{IsCopying, IsPaired, Crosses, Glues}

pub among_swap : {p q v w : ℕ} → Among p q v w → Among q p v w
among_swap (along e h) = back e h
among_swap (back e h) = along e h

pub among_turn : {p q v w : ℕ} → Among p q v w → Among p q w v
among_turn (along e h) = back h e
among_turn (back e h) = along h e

-- at the first end, the other end is the second
pub among_first : {p q w : ℕ} → Among p q p w → w ≡ q
among_first (along e h) = h
among_first (back e h) = h ∙ e

pub among_cases : (p q v w : ℕ) → Among p q v w ⊎ (Among p q v w → ⊥)
among_cases p q v w =
    elim (cases_eq v p) [
      | inl a ↦ elim (cases_eq w q) [
        | inl b ↦ inl (along a b)
        | inr nb ↦ inr (λ m. nb (among_first (subst (λ x. Among p q x w) a m)))
      ]
      | inr na ↦ elim (cases_eq v q) [
        | inl a ↦ elim (cases_eq w p) [
          | inl b ↦ inl (back a b)
          | inr nb ↦ inr (λ m. nb (among_first (among_swap (subst (λ x. Among p q x w) a m))))
        ]
        | inr nb ↦ inr (λ m. outside na nb m)
      ]
    ]
  where
    outside : {p q v w : ℕ} → v ≢ p → v ≢ q → Among p q v w → ⊥
    outside na nb (along e h) = na e
    outside na nb (back e h) = nb e

-- the faces and the ends of a gluing may change places
pub glues_turned : {Rim Rim' Same Same' : ℕ → ℕ → ℕ → Type 0} {a b p q : ℕ} → IsPaired Rim Same →
    Glues Rim Rim' Same Same' a b p q → Glues Rim Rim' Same Same' a b q p
glues_turned {Same = Same} {a = a} {b = b} {p = p} {q = q} old g = record {
  differ = g.differ;
  left = old.turned g.left;
  right = old.turned g.right;
  kept = g.kept;
  off = λ r m. g.off r (among_swap m);
  rest = λ r n. g.rest r (λ m. n (among_swap m));
  same = g.same;
  at_first = g.at_second;
  at_second = g.at_first;
  split = λ s. swap (g.split s);
}
  where
    swap : {v f h : ℕ} → Same v f h ⊎ Crosses Same a b p q v f h → Same v f h ⊎ Crosses Same a b q p v f h
    swap (inl s) = inl s
    swap (inr c) = inr (record { at = elim c.at [ inl e ↦ inr e | inr e ↦ inl e ]; sides = c.sides })

pub glues_swapped : {Rim Rim' Same Same' : ℕ → ℕ → ℕ → Type 0} {a b p q : ℕ} → IsCopying Same' →
    Glues Rim Rim' Same Same' a b p q → Glues Rim Rim' Same Same' b a p q
glues_swapped {Same = Same} {a = a} {b = b} {p = p} {q = q} new g = record {
  differ = λ e. g.differ (sym e);
  left = g.right;
  right = g.left;
  kept = g.kept;
  off = g.off;
  rest = g.rest;
  same = g.same;
  at_first = new.turned g.at_first;
  at_second = new.turned g.at_second;
  split = λ s. swap (g.split s);
}
  where
    swap : {v f h : ℕ} → Same v f h ⊎ Crosses Same a b p q v f h → Same v f h ⊎ Crosses Same b a p q v f h
    swap (inl s) = inl s
    swap (inr c) = inr (record { at = c.at; sides = elim c.sides [ inl e ↦ inr e | inr e ↦ inl e ] })

module _ {Rim Rim' Same Same' : ℕ → ℕ → ℕ → Type 0} {a b p q : ℕ} (old : IsPaired Rim Same) (eqv : IsCopying Same)
    (new : IsCopying Same') (glue : Glues Rim Rim' Same Same' a b p q) where
  -- a side that stays cut isn't the glued one
  other_end : {f w : ℕ} → Rim' f p w → w ≢ q
  other_end r e = glue.off r (along refl e)

  -- two sides that stay cut, at the copy of the glued side of a, are one
  pub two_at : {f w h y : ℕ} → Rim' f p w → Rim' h p y → Same p a f → Same p a h → (f ≡ h) × (w ≡ y)
  two_at r s at_f at_h =
      elim (old.no_third (glue.left) (glue.kept r) (glue.kept s) at_f at_h) [
        | inl e ↦ absurd (other_end r (sym e.1))
        | inr o ↦ elim o [ inl e ↦ absurd (other_end s (sym e.1)) | inr e ↦ e ]
      ]

  pub not_both : {f w : ℕ} → Rim' f p w → Same p a f → Same p b f → ⊥
  not_both r at_a at_b =
      elim (old.no_third (glue.kept r) glue.left glue.right (eqv.turned at_a) (eqv.turned at_b)) [
        | inl e ↦ other_end r e.1
        | inr o ↦ elim o [ inl e ↦ other_end r e.1 | inr e ↦ glue.differ e.0 ]
      ]

  -- where the other cut side at a's copy was the glued one, it is now the one at b's copy
  across : {f w : ℕ} → Rim' f p w → Same p a f → (g : ℕ) × (y : ℕ) × Rim' g p y × Same' p f g × (f ≡ g → w ≡ y → ⊥)
  across {f} {w} r at_a =
      let found = old.another glue.right in
      let stays : found.1 ≢ q =
      λ e. absurd (elim (old.two_faces glue.left glue.right (subst (λ x. Rim found.0 p x) e found.2)) [
        | inl h ↦ glue.differ h
        | inr o ↦ elim o [
          | inl h ↦ not_both r at_a (eqv.onward (subst (λ x. Same p b x) (sym h) found.3) at_a)
          | inr h ↦ found.4 h (sym e)
        ]
      ]) in (
        found.0,
        found.1,
        glue.rest found.2 (λ m. stays (among_first m)),
        new.onward (glue.same (eqv.turned at_a)) (new.onward glue.at_first (glue.same found.3)),
        λ e h. not_both r at_a (subst (λ x. Same p b x) (sym e) found.3),
      )

module _ {Rim Rim' Same Same' : ℕ → ℕ → ℕ → Type 0} {a b p q : ℕ} (old : IsPaired Rim Same) (eqv : IsCopying Same)
    (new : IsCopying Same') (glue : Glues Rim Rim' Same Same' a b p q) where
  -- the two cases of `across`, by which of the two faces holds the side found
  another_first : {f w g : ℕ} → Rim' f p w → Same p f g → Rim g p q → (h : ℕ) × (y : ℕ) × Rim' h p y × Same' p f h
      × (f ≡ h → w ≡ y → ⊥)
  another_first {f} {w} {g} r at_g s =
      elim (old.two_faces glue.left glue.right s) [
        | inl e ↦ absurd (glue.differ e)
        | inr o ↦ elim o [
          | inl e ↦ across old eqv new glue r (subst (λ x. Same p x f) (sym e) (eqv.turned at_g))
          | inr e ↦ across old eqv new (glues_swapped new glue) r (subst (λ x. Same p x f) (sym e) (eqv.turned at_g))
        ]
      ]

  no_third_first : {f g h w y z : ℕ} → Rim' f p w → Rim' g p y → Rim' h p z → Same' p f g → Same' p f h →
      ((f ≡ g) × (w ≡ y)) ⊎ (((f ≡ h) × (w ≡ z)) ⊎ ((g ≡ h) × (y ≡ z)))
  no_third_first {f} {g} {h} r s t fg fh =
      let other = glues_swapped new glue in
      elim (glue.split fg) [
        | inl e ↦ elim (glue.split fh) [
          | inl k ↦ old.no_third (glue.kept r) (glue.kept s) (glue.kept t) e k
          | inr c ↦ elim c.sides [
            | inl x ↦ inl (two_at old eqv new glue r s x.0 (eqv.onward x.0 e))
            | inr x ↦ inl (two_at old eqv new other r s x.0 (eqv.onward x.0 e))
          ]
        ]
        | inr c ↦ elim c.sides [
          | inl x ↦ elim (glue.split fh) [
            | inl k ↦ inr (inl (two_at old eqv new glue r t x.0 (eqv.onward x.0 k)))
            | inr d ↦ elim d.sides [
              | inl y ↦ inr (inr (two_at old eqv new other s t x.1 y.1))
              | inr y ↦ absurd (not_both old eqv new glue r x.0 y.0)
            ]
          ]
          | inr x ↦ elim (glue.split fh) [
            | inl k ↦ inr (inl (two_at old eqv new other r t x.0 (eqv.onward x.0 k)))
            | inr d ↦ elim d.sides [
              | inl y ↦ absurd (not_both old eqv new glue r y.0 x.0)
              | inr y ↦ inr (inr (two_at old eqv new glue s t x.1 y.1))
            ]
          ]
        ]
      ]

module _ {Rim Rim' Same Same' : ℕ → ℕ → ℕ → Type 0} {a b p q : ℕ} (old : IsPaired Rim Same) (eqv : IsCopying Same)
    (new : IsCopying Same') (glue : Glues Rim Rim' Same Same' a b p q) where
  pub another_glued : {f v w : ℕ} → Rim' f v w → (g : ℕ) × (y : ℕ) × Rim' g v y × Same' v f g × (f ≡ g → w ≡ y → ⊥)
  another_glued {f} {v} {w} r =
      let found = old.another (glue.kept r) in
      elim (among_cases p q v found.1) [
        | inr n ↦ (found.0, found.1, glue.rest found.2 n, glue.same found.3, found.4)
        | inl m ↦ elim m [
          | along e h ↦ subst (λ x. (g : ℕ) × (y : ℕ) × Rim' g x y × Same' x f g × (f ≡ g → w ≡ y → ⊥)) (sym e)
              (another_first old eqv new glue (subst (λ x. Rim' f x w) e r) (subst (λ x. Same x f found.0) e found.3)
              (subst (λ x. Rim found.0 p x) h (subst (λ x. Rim found.0 x found.1) e found.2)))
          | back e h ↦ subst (λ x. (g : ℕ) × (y : ℕ) × Rim' g x y × Same' x f g × (f ≡ g → w ≡ y → ⊥)) (sym e)
              (another_first old eqv new (glues_turned old glue) (subst (λ x. Rim' f x w) e r)
              (subst (λ x. Same x f found.0) e found.3)
              (subst (λ x. Rim found.0 q x) h (subst (λ x. Rim found.0 x found.1) e found.2)))
        ]
      ]

  no_third_end : {f g h v w y z : ℕ} → (v ≡ p) ⊎ (v ≡ q) → Rim' f v w → Rim' g v y → Rim' h v z → Same' v f g →
      Same' v f h → ((f ≡ g) × (w ≡ y)) ⊎ (((f ≡ h) × (w ≡ z)) ⊎ ((g ≡ h) × (y ≡ z)))
  no_third_end {f} {g} {h} {v} {w} {y} {z} (inl e) r s t fg fh =
      no_third_first old eqv new glue (subst (λ x. Rim' f x w) e r) (subst (λ x. Rim' g x y) e s)
      (subst (λ x. Rim' h x z) e t) (subst (λ x. Same' x f g) e fg) (subst (λ x. Same' x f h) e fh)
  no_third_end {f} {g} {h} {v} {w} {y} {z} (inr e) r s t fg fh =
      no_third_first old eqv new (glues_turned old glue) (subst (λ x. Rim' f x w) e r) (subst (λ x. Rim' g x y) e s)
      (subst (λ x. Rim' h x z) e t) (subst (λ x. Same' x f g) e fg) (subst (λ x. Same' x f h) e fh)

  pub no_third_glued : {f g h v w y z : ℕ} → Rim' f v w → Rim' g v y → Rim' h v z → Same' v f g → Same' v f h →
      ((f ≡ g) × (w ≡ y)) ⊎ (((f ≡ h) × (w ≡ z)) ⊎ ((g ≡ h) × (y ≡ z)))
  no_third_glued r s t fg fh =
      elim (glue.split fg) [
        | inr c ↦ no_third_end c.at r s t fg fh
        | inl e ↦ elim (glue.split fh) [
          | inr c ↦ no_third_end c.at r s t fg fh
          | inl k ↦ old.no_third (glue.kept r) (glue.kept s) (glue.kept t) e k
        ]
      ]

  pub turned_glued : {f v w : ℕ} → Rim' f v w → Rim' f w v
  turned_glued r = glue.rest (old.turned (glue.kept r)) (λ m. glue.off r (among_turn m))

  pub paired_glued : IsPaired Rim' Same'
  paired_glued = record {
    turned = turned_glued;
    apart = λ r. old.apart (glue.kept r);
    two_faces = λ r s t. old.two_faces (glue.kept r) (glue.kept s) (glue.kept t);
    another = another_glued;
    no_third = no_third_glued;
  }

  -- a face with the glued side is a or b
  pub glued_face : {f : ℕ} → Rim f p q → (f ≡ a) ⊎ (f ≡ b)
  glued_face r =
      elim (old.two_faces glue.left glue.right r) [
        | inl e ↦ absurd (glue.differ e)
        | inr o ↦ elim o [ inl e ↦ inl (sym e) | inr e ↦ inr (sym e) ]
      ]
