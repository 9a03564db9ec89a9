-- Labels of corners, as a program keeps them: what gluing a further face, and gluing a leaf's edge, does to them.
use Rattle.surf_surfaces.proofs.Common.{◌≡◌, ◌≢◌, ℕ, ◌⊎◌, ◌↔◌, inl, inr, sym, refl, subst, ap, ◌∙◌, List, ◌∷◌, cases_eq, here}
use Rattle.surf_opening.proofs.gluing.RimWords.{IsCopying, Glues}
use Rattle.surf_opening.specs.Uncut.{Copy, CutSide, In, IsFaceTree, LabelsAgree}
use Rattle.surf_opening.proofs.sides.SideWords.{IsSides}
use Rattle.surf_opening.proofs.gluing.Gluing.{copying, glues}
use Rattle.surf_opening.proofs.gluing.Tree.{alone, glued_in}

module _ {Side : ℕ → ℕ → ℕ → Type 0} (sides : IsSides Side) where
  -- b comes in through p q: it takes a's labels at p and q, and new ones at its other corners
  module _ {faces : List ℕ} {uncut : List (ℕ × ℕ)} {a b p q : ℕ} (tree : IsFaceTree Side faces uncut)
      (in_a : In faces a) (out_b : In faces b → ⊥) (at_a : Side a p q) (at_b : Side b p q)
      (label label' : ℕ → ℕ → ℕ) (agree : LabelsAgree Side uncut faces label)
      (as_before : (f v : ℕ) → In faces f → label' f v ≡ label f v) (at_p : label' b p ≡ label a p)
      (at_q : label' b q ≡ label a q)
      (new : (v w f x y : ℕ) → Side b v w → v ≢ p → v ≢ q → In faces f → Side f x y → label' b v ≢ label f x)
      (apart : (v w x y : ℕ) → Side b v w → Side b x y → label' b v ≡ label' b x → v ≡ x) where
    after : IsCopying (Copy Side ((p, q) ∷ uncut))
    after = copying sides ((p, q) ∷ uncut)

    glue : Glues (CutSide Side uncut) (CutSide Side ((p, q) ∷ uncut)) (Copy Side uncut)
        (Copy Side ((p, q) ∷ uncut)) a b p q
    glue = glues sides uncut at_a at_b (λ e. out_b (subst (λ x. In faces x) e in_a))
        (λ u. out_b (glued_in sides tree u at_b))

    not_b : {g : ℕ} → In faces g → b ≢ g
    not_b i e = out_b (subst (λ x. In faces x) (sym e) i)

    -- two faces of before
    old_to : {f g v : ℕ} → In faces f → In faces g → Copy Side ((p, q) ∷ uncut) v f g → Copy Side uncut v f g
    old_to {f} {g} {v} i j c = elim (glue.split c) [
      | inl k ↦ k
      | inr k ↦ elim k.sides [
        | inl s ↦ absurd (not_b j (alone sides tree out_b s.1))
        | inr s ↦ absurd (not_b i (alone sides tree out_b s.0))
      ]
    ]

    -- b and a face of before
    b_to : {g v w x y : ℕ} → In faces g → Side b v w → Side g x y → label' b v ≡ label g x →
        (v ≡ x) × Copy Side ((p, q) ∷ uncut) v b g
    b_to {g} {v} {w} {x} {y} j s t e = elim (cases_eq v p) [
      | inl i ↦
          let k = (agree a g p q x y in_a j at_a t).0 (sym at_p ∙ ap (λ v. label' b v) (sym i) ∙ e) in (
            i ∙ k.0,
            subst (λ v. Copy Side ((p, q) ∷ uncut) v b g) (sym i)
                (after.onward (after.turned glue.at_first) (glue.same k.1)),
          )
      | inr ni ↦ elim (cases_eq v q) [
        | inl i ↦
            let k = (agree a g q p x y in_a j (sides.turned at_a) t).0 (sym at_q ∙ ap (λ v. label' b v) (sym i) ∙ e) in (
              i ∙ k.0,
              subst (λ v. Copy Side ((p, q) ∷ uncut) v b g) (sym i)
                  (after.onward (after.turned glue.at_second) (glue.same k.1)),
            )
        | inr nj ↦ absurd (new v w g x y s ni nj j t e)
      ]
    ]

    to_b : {g v y : ℕ} → In faces g → Side g v y → Copy Side ((p, q) ∷ uncut) v b g → label' b v ≡ label g v
    to_b {g} {v} {y} j t c = elim (glue.split c) [
      | inl k ↦ absurd (not_b j (alone sides tree out_b k))
      | inr k ↦
          let from_a : Copy Side uncut v a g = elim k.sides [
            | inl s ↦ absurd (not_b j (alone sides tree out_b s.1))
            | inr s ↦ s.1
          ] in
          elim k.at [
            | inl e ↦ ap (λ v. label' b v) e ∙ at_p ∙ (agree a g p q v y in_a j at_a t).1
                (sym e, subst (λ v. Copy Side uncut v a g) e from_a)
            | inr e ↦ ap (λ v. label' b v) e ∙ at_q ∙ (agree a g q p v y in_a j (sides.turned at_a) t).1
                (sym e, subst (λ v. Copy Side uncut v a g) e from_a)
          ]
    ]

    pub labels_grown : LabelsAgree Side ((p, q) ∷ uncut) (b ∷ faces) label'
    labels_grown f g v w x y i j s t = elim i [
      | inl e ↦ elim j [
        | inl h ↦ b_and_b e h
        | inr k ↦ b_and_old e k
      ]
      | inr l ↦ elim j [
        | inl h ↦ old_and_b l h
        | inr k ↦ old_and_old l k
      ]
    ]
      where
        on_b : {f v w : ℕ} → f ≡ b → Side f v w → Side b v w
        on_b {f} {v} {w} e s = subst (λ f. Side f v w) e s

        b_and_b : f ≡ b → g ≡ b → (label' f v ≡ label' g x) ↔ ((v ≡ x) × Copy Side ((p, q) ∷ uncut) v f g)
        b_and_b e h = (
          (λ k. (
            apart v w x y (on_b e s) (on_b h t) (ap (λ f. label' f v) (sym e) ∙ k ∙ ap (λ g. label' g x) h),
            subst (λ g. Copy Side ((p, q) ∷ uncut) v f g) (e ∙ sym h) here,
          )),
          (λ k. ap (λ f. label' f v) (e ∙ sym h) ∙ ap (λ v. label' g v) k.0),
        )

        b_and_old : f ≡ b → In faces g → (label' f v ≡ label' g x) ↔ ((v ≡ x) × Copy Side ((p, q) ∷ uncut) v f g)
        b_and_old e k = (
          (λ h. let m = b_to k (on_b e s) t (ap (λ f. label' f v) (sym e) ∙ h ∙ as_before g x k) in
              (m.0, subst (λ f. Copy Side ((p, q) ∷ uncut) v f g) (sym e) m.1)),
          (λ m. ap (λ f. label' f v) e ∙ to_b k (subst (λ v. Side g v y) (sym m.0) t)
              (subst (λ f. Copy Side ((p, q) ∷ uncut) v f g) e m.1) ∙ ap (λ v. label g v) m.0 ∙ sym (as_before g x k)),
        )

        old_and_b : In faces f → g ≡ b → (label' f v ≡ label' g x) ↔ ((v ≡ x) × Copy Side ((p, q) ∷ uncut) v f g)
        old_and_b l h = (
          (λ k. let m = b_to l (on_b h t) s (ap (λ g. label' g x) (sym h) ∙ sym k ∙ as_before f v l) in (
            sym m.0,
            subst (λ g. Copy Side ((p, q) ∷ uncut) v f g) (sym h)
                (after.turned (subst (λ v. Copy Side ((p, q) ∷ uncut) v b f) m.0 m.1)),
          )),
          (λ m. sym (ap (λ g. label' g x) h ∙ to_b l (subst (λ v. Side f v w) m.0 s)
              (after.turned (subst (λ v. Copy Side ((p, q) ∷ uncut) v f b) m.0
              (subst (λ g. Copy Side ((p, q) ∷ uncut) v f g) h m.1))) ∙ ap (λ v. label f v) (sym m.0) ∙ sym
              (as_before f v l))),
        )

        old_and_old : In faces f → In faces g → (label' f v ≡ label' g x) ↔ ((v ≡ x) × Copy Side ((p, q) ∷ uncut) v f g)
        old_and_old l k = (
          (λ h. let m = (agree f g v w x y l k s t).0 (sym (as_before f v l) ∙ h ∙ as_before g x k) in
              (m.0, glue.same m.1)),
          (λ m. as_before f v l ∙ (agree f g v w x y l k s t).1 (m.0, old_to l k m.1) ∙ sym (as_before g x k)),
        )

  -- the edge p q of a leaf p is glued: b's label at q gives way to a's
  module _ (faces : List ℕ) (uncut : List (ℕ × ℕ)) {a b p q : ℕ} (in_a : In faces a) (in_b : In faces b)
      (glue : Glues (CutSide Side uncut) (CutSide Side ((p, q) ∷ uncut)) (Copy Side uncut)
      (Copy Side ((p, q) ∷ uncut)) a b p q)
      (closed : Copy Side uncut p a b) (label label' : ℕ → ℕ → ℕ) (agree : LabelsAgree Side uncut faces label)
      (renamed : (f v : ℕ) → label f v ≡ label b q → label' f v ≡ label a q)
      (others : (f v : ℕ) → label f v ≢ label b q → label' f v ≡ label f v) where
    before : IsCopying (Copy Side uncut)
    before = copying sides uncut

    next : IsCopying (Copy Side ((p, q) ∷ uncut))
    next = copying sides ((p, q) ∷ uncut)

    at_a : Side a q p
    at_a = sides.turned glue.left.0

    at_b : Side b q p
    at_b = sides.turned glue.right.0

    -- a label that stands for a's at q
    has_a : {f v w : ℕ} → In faces f → Side f v w → label f v ≡ label a q → (v ≡ q) × Copy Side ((p, q) ∷ uncut) v f a
    has_a {f} {v} {w} i s e = let m = (agree f a v w q p i in_a s at_a).0 e in (m.0, glue.same m.1)

    has_b : {f v w : ℕ} → In faces f → Side f v w → label f v ≡ label b q → (v ≡ q) × Copy Side ((p, q) ∷ uncut) v f a
    has_b {f} {v} {w} i s e = let m = (agree f b v w q p i in_b s at_b).0 e in (
      m.0,
      next.onward (glue.same m.1)
          (subst (λ v. Copy Side ((p, q) ∷ uncut) v b a) (sym m.0) (next.turned glue.at_second)),
    )

    joined : {f g v x : ℕ} → (v ≡ q) × Copy Side ((p, q) ∷ uncut) v f a → (x ≡ q) × Copy Side ((p, q) ∷ uncut) x g a →
        (v ≡ x) × Copy Side ((p, q) ∷ uncut) v f g
    joined {f} {g} {v} {x} m n = (
      m.0 ∙ sym n.0,
      next.onward m.1
          (next.turned (subst (λ v. Copy Side ((p, q) ∷ uncut) v g a) (n.0 ∙ sym m.0) n.1)),
    )

    -- who has b's or a's old copy at q has a's label now
    now_a : {f w : ℕ} → In faces f → Side f q w → (Copy Side uncut q a f ⊎ Copy Side uncut q b f) →
        label' f q ≡ label a q
    now_a {f} {w} i s (inr c) = renamed f q ((agree f b q w q p i in_b s at_b).1 (refl, before.turned c))
    now_a {f} {w} i s (inl c) =
        let e = (agree f a q w q p i in_a s at_a).1 (refl, before.turned c) in
        elim (cases_eq (label f q) (label b q)) [ inl h ↦ renamed f q h | inr n ↦ others f q n ∙ e ]

    kept_same : (f g v x : ℕ) → label f v ≡ label g x → label' f v ≡ label' g x
    kept_same f g v x e = elim (cases_eq (label f v) (label b q)) [
      | inl h ↦ renamed f v h ∙ sym (renamed g x (sym e ∙ h))
      | inr n ↦ others f v n ∙ e ∙ sym (others g x (λ h. n (e ∙ h)))
    ]

    pub labels_zipped : LabelsAgree Side ((p, q) ∷ uncut) faces label'
    labels_zipped f g v w x y i j s t = (to, from)
      where
        to : label' f v ≡ label' g x → (v ≡ x) × Copy Side ((p, q) ∷ uncut) v f g
        to e = elim (cases_eq (label f v) (label b q)) [
          | inl h ↦ elim (cases_eq (label g x) (label b q)) [
            | inl k ↦ joined (has_b i s h) (has_b j t k)
            | inr k ↦ joined (has_b i s h) (has_a j t (sym (others g x k) ∙ sym e ∙ renamed f v h))
          ]
          | inr h ↦ elim (cases_eq (label g x) (label b q)) [
            | inl k ↦ joined (has_a i s (sym (others f v h) ∙ e ∙ renamed g x k)) (has_b j t k)
            | inr k ↦ let m = (agree f g v w x y i j s t).0 (sym (others f v h) ∙ e ∙ others g x k) in
                (m.0, glue.same m.1)
          ]
        ]

        at_q : v ≡ q → x ≡ q → (Copy Side uncut v a f ⊎ Copy Side uncut v b f) →
            (Copy Side uncut v a g ⊎ Copy Side uncut v b g) → label' f v ≡ label' g x
        at_q e h k l = ap (λ v. label' f v) e
            ∙ now_a i (subst (λ v. Side f v w) e s) (subst (λ v. Copy Side uncut v a f ⊎ Copy Side uncut v b f) e k)
            ∙ sym (now_a j (subst (λ x. Side g x y) h t)
            (subst (λ v. Copy Side uncut v a g ⊎ Copy Side uncut v b g) e l))
            ∙ ap (λ x. label' g x) (sym h)

        from : (v ≡ x) × Copy Side ((p, q) ∷ uncut) v f g → label' f v ≡ label' g x
        from m = elim (glue.split m.1) [
          | inl c ↦ kept_same f g v x ((agree f g v w x y i j s t).1 (m.0, c))
          | inr c ↦ elim c.at [
            | inl e ↦ kept_same f g v x ((agree f g v w x y i j s t).1 (
              m.0,
              elim c.sides [
                | inl k ↦ before.onward (before.turned k.0)
                    (before.onward (subst (λ v. Copy Side uncut v a b) (sym e) closed) k.1)
                | inr k ↦ before.onward (before.turned k.0)
                    (before.onward (before.turned (subst (λ v. Copy Side uncut v a b) (sym e) closed)) k.1)
              ],
            ))
            | inr e ↦ elim c.sides [
              | inl k ↦ at_q e (sym m.0 ∙ e) (inl k.0) (inr k.1)
              | inr k ↦ at_q e (sym m.0 ∙ e) (inr k.0) (inl k.1)
            ]
          ]
        ]
