-- Gluing the two cut sides at a leaf: they have one copy at p, and two at q.
use Rattle.surf_surfaces.proofs.Common.{◌≡◌, ◌≢◌, ℕ, ◌⊎◌, inl, inr, sym, refl, subst, ◌∙◌, cases_eq}
use Rattle.surf_opening.specs.Rim.{Among, along, back, HasMore}
use Rattle.surf_opening.proofs.gluing.RimWords.{IsCopying, IsRim, Reaches, Glues, IsOneRim, here, turn, pass}
use Rattle.surf_opening.proofs.gluing.Rims.{among_turn, among_cases, not_both, glued_face, turned_glued, paired_glued}

-- Two more cut sides f and g of one edge q w, with one copy at w, and at q the copies of a and b: then these four are
-- the whole rim.
module _ {Rim Rim' Same Same' : ℕ → ℕ → ℕ → Type 0} {a b p q f g w : ℕ} (old : IsRim Rim Same) (eqv : IsCopying Same)
    (new : IsCopying Same') (glue : Glues Rim Rim' Same Same' a b p q)
    (closed : Same p a b) (r : Rim' f q w) (s : Rim' g q w) (differ : f ≢ g) (at_a : Same q a f) (at_b : Same q b g)
    (top : Same w f g) where
  abbrev Near : ℕ → ℕ → Type 0
  Near x y = Among p q x y ⊎ Among q w x y

  near_p : {h z : ℕ} → Rim h p z → Same p a h → Near p z
  near_p t e =
      elim (old.no_third glue.left glue.right t closed e) [
        | inl k ↦ absurd (glue.differ k.0)
        | inr o ↦ elim o [ inl k ↦ inl (along refl (sym k.1)) | inr k ↦ inl (along refl (sym k.1)) ]
      ]

  near_a : {h z : ℕ} → Rim h q z → Same q a h → Near q z
  near_a t e =
      elim (old.no_third (old.turned glue.left) (glue.kept r) t at_a e) [
        | inl k ↦ absurd (glue.off r (back refl (sym k.1)))
        | inr o ↦ elim o [ inl k ↦ inl (back refl (sym k.1)) | inr k ↦ inr (along refl (sym k.1)) ]
      ]

  near_b : {h z : ℕ} → Rim h q z → Same q b h → Near q z
  near_b t e =
      elim (old.no_third (old.turned glue.right) (glue.kept s) t at_b e) [
        | inl k ↦ absurd (glue.off s (back refl (sym k.1)))
        | inr o ↦ elim o [ inl k ↦ inl (back refl (sym k.1)) | inr k ↦ inr (along refl (sym k.1)) ]
      ]

  near_w : {h z : ℕ} → Rim h w z → Same w f h → Near w z
  near_w t e =
      elim (old.no_third (old.turned (glue.kept r)) (old.turned (glue.kept s)) t top e) [
        | inl k ↦ absurd (differ k.0)
        | inr o ↦ elim o [ inl k ↦ inr (back refl (sym k.1)) | inr k ↦ inr (back refl (sym k.1)) ]
      ]

  holds_f_or_g : {h : ℕ} → Rim h q w → (f ≡ h) ⊎ (g ≡ h)
  holds_f_or_g t = elim (old.two_faces (glue.kept r) (glue.kept s) t) [ inl e ↦ absurd (differ e) | inr o ↦ o ]

  from_p : {h k z : ℕ} → Rim h p q → Same p h k → Rim k p z → Near p z
  from_p {h} {k} t e u = near_p u (elim (glued_face old.paired eqv new glue t) [
    | inl i ↦ subst (λ x. Same p x k) i e
    | inr i ↦ eqv.onward closed (subst (λ x. Same p x k) i e)
  ])

  from_q : {h k z : ℕ} → Rim h q p → Same q h k → Rim k q z → Near q z
  from_q {h} {k} t e u = elim (glued_face old.paired eqv new glue (old.turned t)) [
    | inl i ↦ near_a u (subst (λ x. Same q x k) i e)
    | inr i ↦ near_b u (subst (λ x. Same q x k) i e)
  ]

  from_q_side : {h k z : ℕ} → Rim h q w → Same q h k → Rim k q z → Near q z
  from_q_side {h} {k} t e u = elim (holds_f_or_g t) [
    | inl i ↦ near_a u (eqv.onward at_a (subst (λ x. Same q x k) (sym i) e))
    | inr i ↦ near_b u (eqv.onward at_b (subst (λ x. Same q x k) (sym i) e))
  ]

  from_w : {h k z : ℕ} → Rim h w q → Same w h k → Rim k w z → Near w z
  from_w {h} {k} t e u = near_w u (elim (holds_f_or_g (old.turned t)) [
    | inl i ↦ subst (λ x. Same w x k) (sym i) e
    | inr i ↦ eqv.onward top (subst (λ x. Same w x k) (sym i) e)
  ])

  -- whoever passes on from one of the four stays among them
  near_step : {h k x y z : ℕ} → Near x y → Rim h x y → Same x h k → Rim k x z → Near x z
  near_step {h} {k} {x} {y} {z} (inl (along i j)) t e u =
      subst (λ x. Near x z) (sym i)
      (from_p (subst (λ y. Rim h p y) j (subst (λ x. Rim h x y) i t)) (subst (λ x. Same x h k) i e)
      (subst (λ x. Rim k x z) i u))
  near_step {h} {k} {x} {y} {z} (inl (back i j)) t e u =
      subst (λ x. Near x z) (sym i)
      (from_q (subst (λ y. Rim h q y) j (subst (λ x. Rim h x y) i t)) (subst (λ x. Same x h k) i e)
      (subst (λ x. Rim k x z) i u))
  near_step {h} {k} {x} {y} {z} (inr (along i j)) t e u =
      subst (λ x. Near x z) (sym i)
      (from_q_side (subst (λ y. Rim h q y) j (subst (λ x. Rim h x y) i t)) (subst (λ x. Same x h k) i e)
      (subst (λ x. Rim k x z) i u))
  near_step {h} {k} {x} {y} {z} (inr (back i j)) t e u =
      subst (λ x. Near x z) (sym i)
      (from_w (subst (λ y. Rim h w y) j (subst (λ x. Rim h x y) i t)) (subst (λ x. Same x h k) i e)
      (subst (λ x. Rim k x z) i u))

  near_turn : {x y : ℕ} → Near x y → Near y x
  near_turn (inl m) = inl (among_turn m)
  near_turn (inr m) = inr (among_turn m)

  near_all : {k s t h x y : ℕ} → Near x y → Rim h x y → Reaches Rim Same k s t h x y → Near s t
  near_all n u here = n
  near_all n u (turn v rest) = near_all (near_turn n) v rest
  near_all n u (pass e v rest) = near_all (near_step n u e v) v rest

module _ {Rim Rim' Same Same' : ℕ → ℕ → ℕ → Type 0} {a b p q : ℕ} (old : IsRim Rim Same) (eqv : IsCopying Same)
    (new : IsCopying Same') (glue : Glues Rim Rim' Same Same' a b p q)
    (closed : Same p a b) (one : IsOneRim Rim Same) (more : HasMore Rim') where
  no_four : {f g w : ℕ} → Rim' f q w → Rim' g q w → f ≢ g → Same q a f → Same q b g → Same w f g → ⊥
  no_four {f} {g} {w} r s differ at_a at_b top =
      let far = more q w in
      elim (near_all old eqv new glue closed r s differ at_a at_b top (inl (along refl refl)) glue.left
      (one a p q far.0 far.1 far.2 glue.left (glue.kept far.3))) [
        | inl m ↦ glue.off far.3 m
        | inr m ↦ far.4 m
      ]

  -- at p nothing is joined
  settle : {v f g : ℕ} → Same' v f g → Same v f g ⊎ ((v ≡ q) × ((Same q a f × Same q b g) ⊎ (Same q b f × Same q a g)))
  settle {v} {f} {g} e =
      elim (glue.split e) [
        | inl k ↦ inl k
        | inr c ↦ elim c.at [
          | inr i ↦ inr (
            i,
            elim c.sides [
              | inl k ↦ inl (subst (λ x. Same x a f) i k.0, subst (λ x. Same x b g) i k.1)
              | inr k ↦ inr (subst (λ x. Same x b f) i k.0, subst (λ x. Same x a g) i k.1)
            ],
          )
          | inl i ↦ inl (elim c.sides [
            | inl k ↦ eqv.onward (eqv.turned k.0) (eqv.onward (subst (λ x. Same x a b) (sym i) closed) k.1)
            | inr k ↦ eqv.onward (eqv.turned k.0) (eqv.onward (eqv.turned (subst (λ x. Same x a b) (sym i) closed)) k.1)
          ])
        ]
      ]

  bigon : {f g v w : ℕ} → Rim' f v w → Rim' g v w → f ≢ g → Same w f g →
      (v ≡ q) × ((Same q a f × Same q b g) ⊎ (Same q b f × Same q a g)) → ⊥
  bigon {f} {g} {v} {w} r s differ top m =
      elim m.1 [
        | inl k ↦ no_four (subst (λ x. Rim' f x w) m.0 r) (subst (λ x. Rim' g x w) m.0 s) differ k.0 k.1 top
        | inr k ↦ no_four (subst (λ x. Rim' g x w) m.0 s) (subst (λ x. Rim' f x w) m.0 r) (λ e. differ (sym e)) k.1 k.0
            (eqv.turned top)
      ]

  pub proper_zipped : (f g v w : ℕ) → Rim' f v w → Rim' g v w → Same' v f g → Same' w f g → f ≡ g
  proper_zipped f g v w r s e h =
      elim (cases_eq f g) [
        | inl k ↦ k
        | inr differ ↦ elim (settle e) [
          | inl k ↦ elim (settle h) [
            | inl l ↦ old.proper (glue.kept r) (glue.kept s) k l
            | inr m ↦ absurd (bigon (turned_glued old.paired eqv new glue r) (turned_glued old.paired eqv new glue s)
                differ k m)
          ]
          | inr m ↦ elim (settle h) [
            | inl l ↦ absurd (bigon r s differ l m)
            | inr n ↦ absurd (old.apart (glue.kept r) (m.0 ∙ sym n.0))
          ]
        ]
      ]

  pub rim_zipped : IsRim Rim' Same'
  rim_zipped = record {
    paired = paired_glued old.paired eqv new glue;
    proper =
        λ r s e h. proper_zipped _ _ _ _ r s e h;
  }

  -- at p only the two glued sides met
  none_closed : {f w g : ℕ} → Rim' f p w → Rim g p q → Same p g f → ⊥
  none_closed {f} {w} {g} r t e =
      let at_a : Same p a f = elim (glued_face old.paired eqv new glue t) [
        | inl i ↦ subst (λ x. Same p x f) i e
        | inr i ↦ eqv.onward closed (subst (λ x. Same p x f) i e)
      ] in
      not_both old.paired eqv new glue r at_a (eqv.onward (eqv.turned closed) at_a)

  -- what meets a glued side at q has the joined copy
  joined : {g h k : ℕ} → Rim g q p → Same q g h → (Same q a k ⊎ Same q b k) → Same' q k h
  joined {g} {h} {k} t e m =
      let with_a : Same' q a h = elim (glued_face old.paired eqv new glue (old.turned t)) [
        | inl i ↦ glue.same (subst (λ x. Same q x h) i e)
        | inr i ↦ new.onward glue.at_second (glue.same (subst (λ x. Same q x h) i e))
      ] in
      elim m [
        | inl i ↦ new.onward (new.turned (glue.same i)) with_a
        | inr i ↦ new.onward (new.turned (glue.same i)) (new.onward (new.turned glue.at_second) with_a)
      ]

  meets : {f g : ℕ} → Rim g q p → Same q f g → Same q a f ⊎ Same q b f
  meets {f} {g} t e =
      elim (glued_face old.paired eqv new glue (old.turned t)) [
        | inl i ↦ inl (eqv.turned (subst (λ x. Same q f x) i e))
        | inr i ↦ inr (eqv.turned (subst (λ x. Same q f x) i e))
      ]

  abbrev FromJoined : ℕ → ℕ → ℕ → Type 0
  FromJoined g x y = (k z : ℕ) → Rim' k q z → (Same q a k ⊎ Same q b k) → Reaches Rim' Same' g x y k q z

  -- a way along the old rim, without the glued sides
  record Rerouted (g x y f v w : ℕ) : Type 0 where
    kept : Rim' f v w → Reaches Rim' Same' g x y f v w
    lost : Rim f v w → Among p q v w → FromJoined g x y

  -- one step by passing on, to a side that stays
  pass_on : {g x y f v w h z : ℕ} → Same v f h → Rim' h v z → Reaches Rim' Same' g x y h v z → Rim f v w →
      Among p q v w → FromJoined g x y
  pass_on {g} {x} {y} {f} {v} {w} {h} {z} s r rest t (along i j) =
      let e : Same p f h = subst (λ x. Same x f h) i s in
      absurd (none_closed (subst (λ x. Rim' h x z) i r) (subst (λ y. Rim f p y) j (subst (λ x. Rim f x w) i t)) e)
  pass_on {g} {x} {y} {f} {v} {w} {h} {z} s r rest t (back i j) = λ k u l m.
      pass (joined (subst (λ y. Rim f q y) j (subst (λ x. Rim f x w) i t)) (subst (λ x. Same x f h) i s) m)
      (subst (λ x. Rim' h x z) i r) (subst (λ v. Reaches Rim' Same' g x y h v z) i rest)

  -- one step by passing on, from a side that stays to a glued one
  pass_to : {g x y f v w h z : ℕ} → Same v f h → Rim h v z → Among p q v z → FromJoined g x y → Rim' f v w →
      Reaches Rim' Same' g x y f v w
  pass_to {g} {x} {y} {f} {v} {w} {h} {z} s t (along i j) rest r =
      absurd (none_closed (subst (λ x. Rim' f x w) i r) (subst (λ y. Rim h p y) j (subst (λ x. Rim h x z) i t))
      (eqv.turned (subst (λ x. Same x f h) i s)))
  pass_to {g} {x} {y} {f} {v} {w} {h} {z} s t (back i j) rest r =
      subst (λ v. Reaches Rim' Same' g x y f v w) (sym i)
      (rest f w (subst (λ x. Rim' f x w) i r)
      (meets (subst (λ y. Rim h q y) j (subst (λ x. Rim h x z) i t)) (subst (λ x. Same x f h) i s)))

  reroute : {g x y f v w : ℕ} → Rim' g x y → Reaches Rim Same g x y f v w → Rerouted g x y f v w
  reroute u here = record { kept = λ r. here; lost = λ t m. absurd (glue.off u m) }
  reroute u (turn t rest) =
      let on = reroute u rest in
      record {
        kept = λ r. let r' = turned_glued old.paired eqv new glue r in turn r' (on.kept r');
        lost = λ o m. on.lost t (among_turn m);
      }
  reroute {f = f} {v = v} {w = w} u (pass {h = h} {z = z} s t rest) =
      let on = reroute u rest in
      elim (among_cases p q v z) [
        | inr n ↦ record {
          kept = λ r. pass (glue.same s) (glue.rest t n) (on.kept (glue.rest t n));
          lost = λ o m. pass_on s (glue.rest t n) (on.kept (glue.rest t n)) o m;
        }
        | inl m ↦ record {
          kept = λ r. pass_to s t m (on.lost t m) r;
          lost = λ o n. on.lost t m;
        }
      ]

  pub one_rim_zipped : IsOneRim Rim' Same'
  one_rim_zipped f v w g x y r u = (reroute u (one f v w g x y (glue.kept r) (glue.kept u))).kept r
