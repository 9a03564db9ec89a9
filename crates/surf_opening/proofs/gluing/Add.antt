-- Gluing a face that stands alone: its side p q to that of a.
use Rattle.std.proofs.Common.{◌≡◌, ◌≢◌, ℕ, ◌⊎◌, inl, inr, sym, refl, subst, ◌∙◌}
use Rattle.surf_opening.specs.Rim.{Among, along, back}
use Rattle.surf_opening.proofs.gluing.RimWords.{IsCopying, IsRim, Reaches, Crosses, Glues, here, turn, pass}
use Rattle.surf_opening.proofs.gluing.Rims.{among_cases, glued_face, turned_glued, paired_glued}
use Rattle.surf_opening.proofs.gluing.Reaching.{reaches_onward, reaches_turned}

module _ {Rim Rim' Same Same' : ℕ → ℕ → ℕ → Type 0} {a b p q : ℕ} (old : IsRim Rim Same) (eqv : IsCopying Same)
    (new : IsCopying Same') (glue : Glues Rim Rim' Same Same' a b p q)
    (alone : (v f : ℕ) → Same v b f → b ≡ f) where
  -- where two faces come together that hadn't, one of them is b
  crossing : {v f g : ℕ} → Crosses Same a b p q v f g → (f ≡ b) ⊎ (g ≡ b)
  crossing {v} {f} {g} c = elim c.sides [ inl k ↦ inr (sym (alone v g k.1)) | inr k ↦ inl (sym (alone v f k.0)) ]

  one_end : {v w f g : ℕ} → Same v f g → Crosses Same a b p q w f g → f ≡ g
  one_end {v} {w} {f} {g} e c = elim (crossing c) [
    | inl i ↦ i ∙ alone v g (subst (λ x. Same v x g) i e)
    | inr i ↦ sym (i ∙ alone v f (subst (λ x. Same v x f) i (eqv.turned e)))
  ]

  ends : {v w : ℕ} → v ≢ w → (v ≡ p) ⊎ (v ≡ q) → (w ≡ p) ⊎ (w ≡ q) → Among p q v w
  ends n (inl e) (inl h) = absurd (n (e ∙ sym h))
  ends n (inl e) (inr h) = along e h
  ends n (inr e) (inl h) = back e h
  ends n (inr e) (inr h) = absurd (n (e ∙ sym h))

  pub proper_added : (f g v w : ℕ) → Rim' f v w → Rim' g v w → Same' v f g → Same' w f g → f ≡ g
  proper_added f g v w r s e h =
      elim (glue.split e) [
        | inl k ↦ elim (glue.split h) [
          | inl l ↦ old.proper (glue.kept r) (glue.kept s) k l
          | inr m ↦ one_end k m
        ]
        | inr m ↦ elim (glue.split h) [
          | inl l ↦ one_end l m
          | inr n ↦ absurd (glue.off r (ends (old.apart (glue.kept r)) m.at n.at))
        ]
      ]

  pub rim_added : IsRim Rim' Same'
  rim_added = record { paired = paired_glued old.paired eqv new glue; proper = λ r s e h. proper_added _ _ _ _ r s e h }

  -- b's side at the glued end
  meets_b : {f g v w : ℕ} → Among p q v w → Rim g v w → Same v f g → Same' v f b
  meets_b {f} {g} {v} {w} (along i j) t e =
      elim (glued_face old.paired eqv new glue (subst (λ y. Rim g p y) j (subst (λ x. Rim g x w) i t))) [
        | inl k ↦ new.onward (glue.same (subst (λ x. Same v f x) k e)) (subst (λ x. Same' x a b) (sym i) glue.at_first)
        | inr k ↦ glue.same (subst (λ x. Same v f x) k e)
      ]
  meets_b {f} {g} {v} {w} (back i j) t e =
      elim (glued_face old.paired eqv new glue (old.turned (subst (λ y. Rim g q y) j (subst (λ x. Rim g x w) i t)))) [
        | inl k ↦ new.onward (glue.same (subst (λ x. Same v f x) k e)) (subst (λ x. Same' x a b) (sym i) glue.at_second)
        | inr k ↦ glue.same (subst (λ x. Same v f x) k e)
      ]

  -- all of b's sides that stay reach one, b p z, and b has a side that stays at q too
  module _ {z y : ℕ} (round : (v w : ℕ) → Rim' b v w → Reaches Rim' Same' b p z b v w) (from_p : Rim' b p z)
      (from_q : Rim' b q y) where
    at_b : {f v w : ℕ} → Among p q v w → Same' v f b → Reaches Rim' Same' b p z f v w
    at_b {f} {v} {w} (along i j) e =
        subst (λ v. Reaches Rim' Same' b p z f v w) (sym i) (pass (subst (λ v. Same' v f b) i e) from_p here)
    at_b {f} {v} {w} (back i j) e =
        subst (λ v. Reaches Rim' Same' b p z f v w) (sym i)
        (pass (subst (λ v. Same' v f b) i e) from_q (round q y from_q))

    at_b_from : {f v w x : ℕ} → Among p q v w → Same' v f b → Reaches Rim' Same' b p z f v x
    at_b_from {f} {v} {w} {x} (along i j) e =
        subst (λ v. Reaches Rim' Same' b p z f v x) (sym i) (pass (subst (λ v. Same' v f b) i e) from_p here)
    at_b_from {f} {v} {w} {x} (back i j) e =
        subst (λ v. Reaches Rim' Same' b p z f v x) (sym i)
        (pass (subst (λ v. Same' v f b) i e) from_q (round q y from_q))

    to_b : {f v w : ℕ} → Reaches Rim Same a p q f v w → Rim' f v w → Reaches Rim' Same' b p z f v w
    to_b here r = absurd (glue.off r (along refl refl))
    to_b (turn t rest) r = let r' = turned_glued old.paired eqv new glue r in turn r' (to_b rest r')
    to_b {v = v} (pass {z = x} s t rest) r =
        elim (among_cases p q v x) [
          | inr n ↦ pass (glue.same s) (glue.rest t n) (to_b rest (glue.rest t n))
          | inl m ↦ at_b_from m (meets_b m t s)
        ]

    -- the faces so far, whose cut sides reach each other, and b
    pub one_rim_added : (In : ℕ → Type 0) → In a →
        ((f v w g x y : ℕ) → In f → In g → Rim f v w → Rim g x y → Reaches Rim Same g x y f v w) →
        (f v w g x y : ℕ) → (f ≡ b) ⊎ In f → (g ≡ b) ⊎ In g → Rim' f v w → Rim' g x y → Reaches Rim' Same' g x y f v w
    one_rim_added In in_a one f v w g s t in_f in_g r u =
        reaches_onward (hub f v w in_f r) (reaches_turned new u (hub g s t in_g u))
      where
        hub : (f v w : ℕ) → (f ≡ b) ⊎ In f → Rim' f v w → Reaches Rim' Same' b p z f v w
        hub f v w (inl e) r =
            subst (λ x. Reaches Rim' Same' b p z x v w) (sym e) (round v w (subst (λ x. Rim' x v w) e r))
        hub f v w (inr i) r = to_b (one f v w a p q i in_a (glue.kept r) glue.left) r
