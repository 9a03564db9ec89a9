-- A round of cut sides has all of the rim.
use Rattle.surf_surfaces.proofs.Common.{◌≡◌, ℕ, suc, ◌<◌, inl, inr, sym, refl, subst, ap, ◌∙◌, arith, after, before}
use Rattle.surf_opening.proofs.sides.Polygons.{after_next}
use Rattle.surf_opening.specs.Round.{IsRound, IsPart}
use Rattle.surf_opening.specs.Rim.{Among, along, back}
use Rattle.surf_opening.proofs.gluing.RimWords.{IsCopying, IsRim, IsOneRim, Reaches, here, turn, pass}
use Rattle.surf_opening.proofs.gluing.Rims.{among_turn}
use Rattle.surf_surfaces.proofs.meshes.SideLaws.{before-below, after-before}
use Rattle.surf_opening.proofs.gluing.Rings.{after_below}

module _ {Rim Same : ℕ → ℕ → ℕ → Type 0} {n : ℕ} {face start end : ℕ → ℕ} (is_rim : IsRim Rim Same)
    (copying : IsCopying Same) (one : IsOneRim Rim Same) (round : IsRound Rim Same n face start end) where
  -- a side of the round, in either direction
  pub record Listed (f v w : ℕ) : Type 0 where
    pub place : ℕ
    pub below : place < n
    pub of : face place ≡ f
    pub is : Among (start place) (end place) v w

  listed_turn : {f v w : ℕ} → Listed f v w → Listed f w v
  listed_turn l = record { place = l.place; below = l.below; of = l.of; is = among_turn l.is }

  -- passing on from the end of side k, and from the start of the side after k
  from_end : {h z : ℕ} (k : ℕ) → k < n → Rim h (end k) z → Same (end k) (face k) h → Listed h (end k) z
  from_end {h} {z} k g r e =
      let j = after n k in
      let j_below : j < n = after_below n k (omega arith) in
      let s : Rim (face j) (end k) (end j) =
      subst (λ v. Rim (face j) v (end j)) (round.goes_on k g) (round.side j j_below) in
      elim (is_rim.no_third (is_rim.turned (round.side k g)) s r (round.meets k g) e) [
        | inl m ↦ absurd (round.differs k g m.0 m.1)
        | inr o ↦ elim o [
          | inl m ↦ record { place = k; below = g; of = m.0; is = back refl (sym m.1) }
          | inr m ↦ record { place = j; below = j_below; of = m.0; is = along (sym (round.goes_on k g)) (sym m.1) }
        ]
      ]

  from_start : {h z : ℕ} (k : ℕ) → k < n → Rim h (start k) z → Same (start k) (face k) h → Listed h (start k) z
  from_start {h} {z} k g r e =
      let i = before n k in
      let i_below : i < n = before-below n k g in
      let a : after n i ≡ k = after-before n k g in
      let at : start k ≡ end i = sym (ap start a) ∙ round.goes_on i i_below in
      let met : Same (end i) (face i) (face k) =
      subst (λ j. Same (end i) (face i) (face j)) a (round.meets i i_below) in
      subst (λ v. Listed h v z) (sym at)
      (from_end i i_below (subst (λ v. Rim h v z) at r) (copying.onward met (subst (λ v. Same v (face k) h) at e)))

  listed_pass : {f v w h z : ℕ} → Listed f v w → Same v f h → Rim h v z → Listed h v z
  listed_pass {f} {v} {w} {h} {z} l e r =
      let e' : Same v (face l.place) h = subst (λ f. Same v f h) (sym l.of) e in
      elim l.is [
        | along i j ↦ subst (λ v. Listed h v z) (sym i)
            (from_start l.place l.below (subst (λ v. Rim h v z) i r) (subst (λ v. Same v (face l.place) h) i e'))
        | back i j ↦ subst (λ v. Listed h v z) (sym i)
            (from_end l.place l.below (subst (λ v. Rim h v z) i r) (subst (λ v. Same v (face l.place) h) i e'))
      ]

  listed_all : {g x y f v w : ℕ} → Reaches Rim Same g x y f v w → Listed f v w → Listed g x y
  listed_all here l = l
  listed_all (turn r rest) l = listed_all rest (listed_turn l)
  listed_all (pass e r rest) l = listed_all rest (listed_pass l e r)

  pub round_has_all : (f v w : ℕ) → Rim f v w → Listed f v w
  round_has_all f v w r = listed_all (one (face 0) (start 0) (end 0) f v w (round.side 0 round.some) r)
      (record { place = 0; below = round.some; of = refl; is = along refl refl })

  -- a round is a walk that goes on
  pub round_part : IsPart Rim Same n face start end
  round_part = record {
    side = round.side;
    goes_on = λ k h. ap start (sym (next k h)) ∙ round.goes_on k (omega arith);
    meets = λ k h. subst (λ j. Same (end k) (face k) (face j)) (next k h) (round.meets k (omega arith));
    differs = λ k h f s. round.differs k (omega arith) (f ∙ ap face (sym (next k h))) (s ∙ ap end (sym (next k h)));
  }
    where
      next : (k : ℕ) → suc k < n → after n k ≡ suc k
      next k h = omega (arith, after_next n k)
