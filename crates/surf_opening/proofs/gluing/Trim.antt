-- The opening stays with one rim while leaf edges are glued.
use Rattle.surf_surfaces.proofs.Common.{◌≡◌, ◌≢◌, ℕ, inl, inr, sym, subst, ◌∙◌, List, ◌∷◌, Joined, here, over}
use Rattle.surf_opening.specs.Rim.{Among, along, back, HasMore}
use Rattle.surf_opening.proofs.gluing.RimWords.{IsRim, IsOneRim}
use Rattle.surf_opening.specs.Uncut.{Uncut, Copy, CutSide, IsDualTree, IsTrimmed, whole, leaf, IsLeafless}
use Rattle.surf_opening.proofs.sides.SideWords.{IsSides, ShareAnyUncut}
use Rattle.surf_opening.proofs.gluing.Rims.{among_cases}
use Rattle.surf_opening.proofs.gluing.Gluing.{copying, glues}
use Rattle.surf_opening.proofs.gluing.Zip.{rim_zipped, one_rim_zipped}
use Rattle.surf_opening.proofs.gluing.Joins.{joined_map}
use Rattle.surf_opening.proofs.gluing.Tree.{tree_has_one_rim, tree_joined, tree_has_cut}

module _ {Side : ℕ → ℕ → ℕ → Type 0} (sides : IsSides Side) where
  pub record IsOpen (uncut : List (ℕ × ℕ)) : Type 0 where
    pub is_rim : IsRim (CutSide Side uncut) (Copy Side uncut)
    pub one : IsOneRim (CutSide Side uncut) (Copy Side uncut)

  -- at a leaf both sides of its cut edge have one copy
  pub leaf_closed : {uncut : List (ℕ × ℕ)} {a p q : ℕ} → IsOpen uncut → CutSide Side uncut a p q →
      ((f w : ℕ) → CutSide Side uncut f p w → w ≡ q) →
      (b : ℕ) × Side b p q × (a ≢ b) × Copy Side uncut p a b
  leaf_closed {uncut} {a} {p} {q} opened r only =
      let found = opened.is_rim.another r in
      let e = only found.0 found.1 found.2 in
      (found.0, subst (λ y. Side found.0 p y) e found.2.0, λ h. found.4 h (sym e), found.3)

  module _ {tree : List (ℕ × ℕ)} (dual : IsDualTree Side tree) where
    pub trimmed_is_open : {uncut : List (ℕ × ℕ)} → IsTrimmed Side tree uncut → IsOpen uncut
    trimmed_is_open whole =
        let one = tree_has_one_rim sides dual.grows in
        record {
          is_rim = one.is_rim;
          one = λ f v w g x y r s. one.one f v w g x y (dual.every_face f v w r.0)
              (dual.every_face g x y s.0) r s;
        }
    trimmed_is_open (leaf {uncut = before} a p q trimmed r only more) =
        let opened = trimmed_is_open trimmed in
        let other = leaf_closed opened r only in
        let glue = glues sides before r.0 other.1 other.2 r.1 in
        record {
          is_rim = rim_zipped opened.is_rim (copying sides before) (copying sides ((p, q) ∷ before)) glue other.3
              opened.one more;
          one = one_rim_zipped opened.is_rim (copying sides before) (copying sides ((p, q) ∷ before)) glue other.3
              opened.one more;
        }

    pub trimmed_has_cut : {uncut : List (ℕ × ℕ)} → IsTrimmed Side tree uncut →
        (f : ℕ) × (v : ℕ) × (w : ℕ) × CutSide Side uncut f v w
    trimmed_has_cut whole = tree_has_cut sides dual.grows
    trimmed_has_cut (leaf a p q trimmed r only more) = let m = more p q in (m.0, m.1, m.2, m.3)

    pub trimmed_joined : {uncut : List (ℕ × ℕ)} {f g v w x y : ℕ} → IsTrimmed Side tree uncut → Side f v w →
        Side g x y → Joined (ShareAnyUncut Side uncut) f g
    trimmed_joined {f = f} {g = g} {v = v} {w = w} {x = x} {y = y} whole s t =
        tree_joined sides f g dual.grows (dual.every_face f v w s) (dual.every_face g x y t)
    trimmed_joined (leaf a p q trimmed r only more) s t =
        joined_map (λ x. x) (λ x y r. over (r.0, (r.1.0, r.1.1, r.1.2, inr r.1.3)) here) (trimmed_joined trimmed s t)

  -- a leaf's edge is in no leafless set of cut edges
  pub leafless_leaf : {Kept : ℕ → ℕ → Type 0} {p q : ℕ} (uncut : List (ℕ × ℕ)) → IsLeafless Side Kept →
      ((v w : ℕ) → Kept v w → Uncut uncut v w → ⊥) → ((f w : ℕ) → CutSide Side uncut f p w → w ≡ q) →
      (v w : ℕ) → Kept v w → Uncut ((p, q) ∷ uncut) v w → ⊥
  leafless_leaf uncut leafless off only v w k (inr u) = off v w k u
  leafless_leaf {Kept} {p} {q} uncut leafless off only v w k (inl m) =
      let at_p : Kept p q = elim m [
        | along e h ↦ subst (λ x. Kept x q) e (subst (λ y. Kept v y) h k)
        | back e h ↦ leafless.turned (subst (λ x. Kept x p) e (subst (λ y. Kept v y) h k))
      ] in
      let other = leafless.another at_p in
      let side = leafless.edge other.1 in
      other.2 (sym (only side.0 other.0 (side.1, off p other.0 other.1)))

  -- trimming takes no edge from a leafless set outside the tree: where the rest is leafless, it is the largest such set
  pub leafless_stays : {Kept : ℕ → ℕ → Type 0} {tree uncut : List (ℕ × ℕ)} → IsLeafless Side Kept →
      ((v w : ℕ) → Kept v w → Uncut tree v w → ⊥) → IsTrimmed Side tree uncut →
      (v w : ℕ) → Kept v w → Uncut uncut v w → ⊥
  leafless_stays leafless off whole = off
  leafless_stays leafless off (leaf {uncut = uncut} a p q trimmed r only more) =
      leafless_leaf uncut leafless (leafless_stays leafless off trimmed) only

  -- a leafless set that isn't empty has two edges and more
  pub leafless_more : {Kept : ℕ → ℕ → Type 0} (uncut : List (ℕ × ℕ)) → IsLeafless Side Kept →
      ((v w : ℕ) → Kept v w → Uncut uncut v w → ⊥) → (v w : ℕ) → Kept v w → HasMore (CutSide Side uncut)
  leafless_more uncut leafless off v w k x y = elim (among_cases x y v w) [
    | inr n ↦ let s = leafless.edge k in (s.0, v, w, (s.1, off v w k), n)
    | inl m ↦
        let other = leafless.another k in
        let s = leafless.edge other.1 in
        (s.0, v, other.0, (s.1, off v other.0 other.1), λ o. other.2 (one_end m o))
  ]
    where
      one_end : {x y v w z : ℕ} → Among x y v w → Among x y v z → w ≡ z
      one_end (along a b) (along c d) = b ∙ sym d
      one_end (along a b) (back c d) = b ∙ sym c ∙ a ∙ sym d
      one_end (back a b) (along c d) = b ∙ sym c ∙ a ∙ sym d
      one_end (back a b) (back c d) = b ∙ sym d
