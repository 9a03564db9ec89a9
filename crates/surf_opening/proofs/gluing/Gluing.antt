-- One more edge uncut glues its two sides.
use Rattle.surf_surfaces.proofs.Common.{◌≡◌, ◌≢◌, ℕ, ◌⊎◌, inl, inr, sym, refl, subst, ◌∙◌, List, [], ◌∷◌, here, over}
use Rattle.surf_opening.specs.Rim.{Among, along, back}
use Rattle.surf_opening.proofs.gluing.RimWords.{IsCopying, Crosses, Glues}
use Rattle.surf_opening.specs.Uncut.{Uncut, Copy, CutSide}
use Rattle.surf_opening.proofs.sides.SideWords.{IsSides}
use Rattle.surf_surfaces.proofs.meshes.JoinedLaws.{joined_trans, joined_sym}
use Rattle.surf_opening.proofs.gluing.Joins.{joined_map}
use Rattle.surf_opening.proofs.gluing.Rims.{among_turn}

module _ {Side : ℕ → ℕ → ℕ → Type 0} (sides : IsSides Side) where
  pub uncut_turned : (uncut : List (ℕ × ℕ)) (v w : ℕ) → Uncut uncut v w → Uncut uncut w v
  uncut_turned [] v w u = elim u [ ]
  uncut_turned (s ∷ rest) v w (inl m) = inl (among_turn m)
  uncut_turned (s ∷ rest) v w (inr u) = inr (uncut_turned rest v w u)

  pub copying : (uncut : List (ℕ × ℕ)) → IsCopying (Copy Side uncut)
  copying uncut = record {
    own = here;
    turned = joined_sym (λ x y r. (r.0, r.2, r.1, r.3));
    onward = joined_trans;
  }

  module _ (uncut : List (ℕ × ℕ)) {a b p q : ℕ} (at_a : Side a p q) (at_b : Side b p q) (differ : a ≢ b)
      (cut : Uncut uncut p q → ⊥) where
    eqv : IsCopying (Copy Side uncut)
    eqv = copying uncut

    abbrev Step : ℕ → ℕ → ℕ → Type 0
    Step v f g = Copy Side uncut v f g ⊎ Crosses (Copy Side uncut) a b p q v f g

    holder : {f v w : ℕ} → Side f v w → Among p q v w → (a ≡ f) ⊎ (b ≡ f)
    holder {f} {v} {w} s m =
        elim (sides.two_faces at_a at_b (on_pair s m)) [ inl e ↦ absurd (differ e) | inr o ↦ o ]
      where
        on_pair : {v w : ℕ} → Side f v w → Among p q v w → Side f p q
        on_pair {v} {w} s (along i j) = subst (λ y. Side f p y) j (subst (λ x. Side f x w) i s)
        on_pair {v} {w} s (back i j) = sides.turned (subst (λ y. Side f q y) j (subst (λ x. Side f x w) i s))

    at_end : {v w : ℕ} → Among p q v w → (v ≡ p) ⊎ (v ≡ q)
    at_end (along i j) = inl i
    at_end (back i j) = inr i

    further : {v f h g : ℕ} → Copy Side uncut v f h → Step v h g → Step v f g
    further e (inl k) = inl (eqv.onward e k)
    further e (inr c) = inr (record {
      at = c.at;
      sides = elim c.sides [
        | inl k ↦ inl (eqv.onward k.0 (eqv.turned e), k.1)
        | inr k ↦ inr (eqv.onward k.0 (eqv.turned e), k.1)
      ];
    })

    from_a : {v g : ℕ} → (v ≡ p) ⊎ (v ≡ q) → Step v b g → Step v a g
    from_a at (inl k) = inr (record { at = at; sides = inl (here, k) })
    from_a at (inr c) = elim c.sides [ inl k ↦ inl (eqv.onward k.0 k.1) | inr k ↦ inl k.1 ]

    from_b : {v g : ℕ} → (v ≡ p) ⊎ (v ≡ q) → Step v a g → Step v b g
    from_b at (inl k) = inr (record { at = at; sides = inr (here, k) })
    from_b at (inr c) = elim c.sides [ inl k ↦ inl k.1 | inr k ↦ inl (eqv.onward k.0 k.1) ]

    split : {v f g : ℕ} → Copy Side ((p, q) ∷ uncut) v f g → Step v f g
    split here = inl here
    split {v} {f} {g} (over {b = h} r rest) = elim r.3 [
      | inr u ↦ further (over (r.0, r.1, r.2, u) here) (split rest)
      | inl m ↦ elim (holder r.1 m) [
        | inl i ↦ elim (holder r.2 m) [
          | inl j ↦ subst (λ x. Step v x g) (sym j ∙ i) (split rest)
          | inr j ↦ subst (λ x. Step v x g) i (from_a (at_end m) (subst (λ x. Step v x g) (sym j) (split rest)))
        ]
        | inr i ↦ elim (holder r.2 m) [
          | inl j ↦ subst (λ x. Step v x g) i (from_b (at_end m) (subst (λ x. Step v x g) (sym j) (split rest)))
          | inr j ↦ subst (λ x. Step v x g) (sym j ∙ i) (split rest)
        ]
      ]
    ]

    pub glues : Glues (CutSide Side uncut) (CutSide Side ((p, q) ∷ uncut)) (Copy Side uncut)
        (Copy Side ((p, q) ∷ uncut)) a b p q
    glues = record {
      differ = differ;
      left = (at_a, cut);
      right = (at_b, cut);
      kept = λ r. (r.0, λ u. r.1 (inr u));
      off = λ r m. r.1 (inl m);
      rest = λ r n. (r.0, λ u. elim u [ inl m ↦ n m | inr k ↦ r.1 k ]);
      same = joined_map (λ x. x) (λ x y r. over (r.0, r.1, r.2, inr r.3) here);
      at_first = over (q, at_a, at_b, inl (along refl refl)) here;
      at_second = over (p, sides.turned at_a, sides.turned at_b, inl (back refl refl)) here;
      split = split;
    }
