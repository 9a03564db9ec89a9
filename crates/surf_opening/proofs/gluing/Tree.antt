-- The faces of a tree, glued along it, have one rim.
use Rattle.surf_surfaces.proofs.Common.{◌≡◌, ◌≢◌, ℕ, zero, suc, ◌<◌, inl, inr, sym, refl, subst, ap, ◌∙◌, List, [], ◌∷◌, length, get_or, arith, Joined, here, over}
use Rattle.surf_opening.specs.Rim.{Among, along, back}
use Rattle.surf_opening.proofs.gluing.RimWords.{IsPaired, IsRim, Reaches, Glues}
use Rattle.surf_opening.proofs.gluing.RimWords as rim
use Rattle.surf_opening.specs.Uncut.{Uncut, Copy, CutSide, In, IsFaceTree, root, grown}
use Rattle.surf_opening.proofs.sides.SideWords.{IsSides, ShareAnyUncut, IsOneRimAmong}
use Rattle.surf_opening.proofs.gluing.Rims.{among_cases, among_first}
use Rattle.surf_opening.proofs.gluing.Reaching.{reaches_map}
use Rattle.surf_surfaces.proofs.meshes.JoinedLaws.{joined_trans}
use Rattle.surf_opening.proofs.gluing.Joins.{joined_map}
use Rattle.surf_opening.proofs.gluing.Gluing.{copying, glues}
use Rattle.surf_opening.proofs.gluing.Add.{rim_added, one_rim_added}

module _ {Side : ℕ → ℕ → ℕ → Type 0} (sides : IsSides Side) where
  pub side_on : {f p q v w : ℕ} → Side f v w → Among p q v w → Side f p q
  side_on {f} {p} {q} {v} {w} s (along i j) = subst (λ y. Side f p y) j (subst (λ x. Side f x w) i s)
  side_on {f} {p} {q} {v} {w} s (back i j) = sides.turned (subst (λ y. Side f q y) j (subst (λ x. Side f x w) i s))

  -- both faces of a glued edge are in the tree
  pub glued_in : {faces : List ℕ} {uncut : List (ℕ × ℕ)} {f v w : ℕ} → IsFaceTree Side faces uncut → Uncut uncut v w →
      Side f v w → In faces f
  glued_in (root r x y t) u s = elim u [ ]
  glued_in (grown a b p q tree in_a out_b at_a at_b) (inr u) s = inr (glued_in tree u s)
  glued_in {f = f} (grown {faces = faces} a b p q tree in_a out_b at_a at_b) (inl m) s =
      elim (sides.two_faces at_a at_b (side_on s m)) [
        | inl e ↦ absurd (out_b (subst (λ x. In faces x) e in_a))
        | inr o ↦ elim o [ inl e ↦ inr (subst (λ x. In faces x) e in_a) | inr e ↦ inl (sym e) ]
      ]

  pub alone : {faces : List ℕ} {uncut : List (ℕ × ℕ)} {v b f : ℕ} → IsFaceTree Side faces uncut → (In faces b → ⊥) →
      Copy Side uncut v b f → b ≡ f
  alone tree out here = refl
  alone tree out (over r rest) = absurd (out (glued_in tree r.3 r.1))

  -- faces apart
  pub copy_apart : {v f g : ℕ} → Copy Side [] v f g → f ≡ g
  copy_apart here = refl
  copy_apart (over r rest) = elim r.3 [ ]

  pub paired_apart : IsPaired (CutSide Side []) (Copy Side [])
  paired_apart = record {
    turned = λ r. (sides.turned r.0, r.1);
    apart = λ r. sides.apart r.0;
    two_faces = λ r s t. sides.two_faces r.0 s.0 t.0;
    another = λ {f} {v} {w} r. let other = sides.other_side r.0 in (f, other.0, (other.1, r.1), here, λ e h. other.2 h);
    no_third = λ {f} {g} {h} {v} {w} {y} {z} r s t k l.
        let e = copy_apart k in
        let i = copy_apart l in
        elim (sides.two_sides r.0 (subst (λ x. Side x v y) (sym e) s.0) (subst (λ x. Side x v z) (sym i) t.0)) [
          | inl m ↦ inl (e, m)
          | inr o ↦ elim o [ inl m ↦ inr (inl (i, m)) | inr m ↦ inr (inr (sym e ∙ i, m)) ]
        ];
  }

  rim_apart : IsRim (CutSide Side []) (Copy Side [])
  rim_apart = record { paired = paired_apart; proper = λ r s e h. copy_apart e }

  one_rim_apart : (f : ℕ) → IsOneRimAmong Side [] (f ∷ [])
  one_rim_apart f g v w h x y (inr i) j r s = elim i [ ]
  one_rim_apart f g v w h x y (inl i) (inr j) r s = elim j [ ]
  one_rim_apart f g v w h x y (inl i) (inl j) r s =
      subst (λ h. Reaches (CutSide Side []) (Copy Side []) h x y g v w) (sym j)
      (subst (λ g. Reaches (CutSide Side []) (Copy Side []) f x y g v w) (sym i)
      (face_round (subst (λ g. Side g v w) i r.0) (subst (λ g. Side g x y) j s.0)))
    where
      around : {f v w x y z : ℕ} → Side f v w → Side f v z → w ≢ z → Side f x y → (Among v w x y → ⊥) →
          Reaches (CutSide Side []) (Copy Side []) f x y f v w
      around {f} {v} {w} {x} {y} {z} r t ne s n =
          rim.pass here (t, λ u. u)
          (reaches_map (λ g s t k. (k.1, λ u. u)) (λ v g h e. subst (λ k. Copy Side [] v g k) e here)
          (sides.round r t s (λ m. ne (sym (among_first m))) n))

      face_round : {f v w x y : ℕ} → Side f v w → Side f x y → Reaches (CutSide Side []) (Copy Side []) f x y f v w
      face_round {f} {v} {w} {x} {y} r s =
          elim (among_cases v w x y) [
            | inr n ↦ let other = sides.other_side r in around r other.1 other.2 s n
            | inl m ↦ elim m [
              | along i j ↦ subst (λ a. Reaches (CutSide Side []) (Copy Side []) f a y f v w) (sym i)
                  (subst (λ b. Reaches (CutSide Side []) (Copy Side []) f v b f v w) (sym j) rim.here)
              | back i j ↦ subst (λ a. Reaches (CutSide Side []) (Copy Side []) f a y f v w) (sym i)
                  (subst (λ b. Reaches (CutSide Side []) (Copy Side []) f w b f v w) (sym j)
                  (rim.turn (sides.turned r, λ u. u) rim.here))
            ]
          ]

  pub record HasOneRim (faces : List ℕ) (uncut : List (ℕ × ℕ)) : Type 0 where
    pub is_rim : IsRim (CutSide Side uncut) (Copy Side uncut)
    pub one : IsOneRimAmong Side uncut faces

  -- the further face
  module _ {faces : List ℕ} {uncut : List (ℕ × ℕ)} {a b p q : ℕ} (tree : IsFaceTree Side faces uncut)
      (in_a : In faces a) (out_b : In faces b → ⊥) (at_a : Side a p q) (at_b : Side b p q) where
    glue : Glues (CutSide Side uncut) (CutSide Side ((p, q) ∷ uncut)) (Copy Side uncut)
        (Copy Side ((p, q) ∷ uncut)) a b p q
    glue = glues sides uncut at_a at_b (λ e. out_b (subst (λ x. In faces x) e in_a)) (λ u. out_b (glued_in tree u at_b))

    stays : {v w : ℕ} → Side b v w → (Among p q v w → ⊥) → CutSide Side ((p, q) ∷ uncut) b v w
    stays s n = (s, λ u. elim u [ inl m ↦ n m | inr k ↦ out_b (glued_in tree k s) ])

    one_more : HasOneRim faces uncut → HasOneRim (b ∷ faces) ((p, q) ∷ uncut)
    one_more before =
        let from_p = sides.other_side at_b in
        let from_q = sides.other_side (sides.turned at_b) in
        record {
          is_rim = rim_added before.is_rim (copying sides uncut) (copying sides ((p, q) ∷ uncut)) glue
              (λ v f. alone tree out_b);
          one = one_rim_added before.is_rim (copying sides uncut) (copying sides ((p, q) ∷ uncut)) glue
              (λ v f. alone tree out_b)
              (λ v w r. reaches_map
              (λ g s t k. subst (λ x. CutSide Side ((p, q) ∷ uncut) x s t) k.0
              (stays (subst (λ x. Side x s t) (sym k.0) k.1) k.2))
              (λ v g h e. subst (λ k. Copy Side ((p, q) ∷ uncut) v g k) e here)
              (sides.round at_b r.0 from_p.1 (λ m. r.1 (inl m)) (λ m. from_p.2 (sym (among_first m)))))
              (stays from_p.1 (λ m. from_p.2 (sym (among_first m))))
              (stays from_q.1 (λ m. from_q.2 (sym (among_back_first m))))
              (In faces) in_a before.one;
        }
      where
        among_back_first : {p q y : ℕ} → Among p q q y → y ≡ p
        among_back_first (along i j) = j ∙ i
        among_back_first (back i j) = j

  pub tree_has_one_rim : {faces : List ℕ} {uncut : List (ℕ × ℕ)} → IsFaceTree Side faces uncut → HasOneRim faces uncut
  tree_has_one_rim (root f v w s) = record { is_rim = rim_apart; one = one_rim_apart f }
  tree_has_one_rim (grown a b p q tree in_a out_b at_a at_b) =
      one_more tree in_a out_b at_a at_b (tree_has_one_rim tree)

  pub in_tree_has_side : {faces : List ℕ} {uncut : List (ℕ × ℕ)} (f : ℕ) → IsFaceTree Side faces uncut → In faces f →
      (v : ℕ) × (w : ℕ) × Side f v w
  in_tree_has_side f (root r v w s) (inr i) = elim i [ ]
  in_tree_has_side f (root r v w s) (inl e) = (v, w, subst (λ x. Side x v w) (sym e) s)
  in_tree_has_side f (grown a b p q tree in_a out_b at_a at_b) (inl e) = (p, q, subst (λ x. Side x p q) (sym e) at_b)
  in_tree_has_side f (grown a b p q tree in_a out_b at_a at_b) (inr i) = in_tree_has_side f tree i

  pub tree_has_cut : {faces : List ℕ} {uncut : List (ℕ × ℕ)} → IsFaceTree Side faces uncut →
      (f : ℕ) × (v : ℕ) × (w : ℕ) × CutSide Side uncut f v w
  tree_has_cut (root f v w s) = (f, v, w, (s, λ u. u))
  tree_has_cut (grown a b p q tree in_a out_b at_a at_b) =
      let other = sides.other_side at_b in
      (b, p, other.0, stays tree in_a out_b at_a at_b other.1 (λ m. other.2 (sym (among_first m))))

  -- the faces of a tree hang together by uncut edges
  pub tree_joined : {faces : List ℕ} {uncut : List (ℕ × ℕ)} (f g : ℕ) → IsFaceTree Side faces uncut → In faces f →
      In faces g → Joined (ShareAnyUncut Side uncut) f g
  tree_joined f g (root r v w s) (inr i) j = elim i [ ]
  tree_joined f g (root r v w s) (inl i) (inr j) = elim j [ ]
  tree_joined f g (root r v w s) (inl i) (inl j) = subst (λ g. Joined (ShareAnyUncut Side []) f g) (i ∙ sym j) here
  tree_joined f g (grown {faces = faces} {uncut = uncut} a b p q tree in_a out_b at_a at_b) i j =
      elim i [
        | inl e ↦ elim j [
          | inl h ↦ subst (λ g. Joined (ShareAnyUncut Side ((p, q) ∷ uncut)) f g) (e ∙ sym h) here
          | inr k ↦ subst (λ f. Joined (ShareAnyUncut Side ((p, q) ∷ uncut)) f g) (sym e)
              (over b_to_a (more (tree_joined a g tree in_a k)))
        ]
        | inr l ↦ elim j [
          | inl h ↦ subst (λ g. Joined (ShareAnyUncut Side ((p, q) ∷ uncut)) f g) (sym h)
              (joined_trans (more (tree_joined f a tree l in_a)) (over a_to_b here))
          | inr k ↦ more (tree_joined f g tree l k)
        ]
      ]
    where
      b_to_a : ShareAnyUncut Side ((p, q) ∷ uncut) b a
      b_to_a = (p, (q, at_b, at_a, inl (along refl refl)))

      a_to_b : ShareAnyUncut Side ((p, q) ∷ uncut) a b
      a_to_b = (p, (q, at_a, at_b, inl (along refl refl)))

      more : {f g : ℕ} → Joined (ShareAnyUncut Side uncut) f g → Joined (ShareAnyUncut Side ((p, q) ∷ uncut)) f g
      more k = joined_map (λ x. x) (λ x y r. over (r.0, (r.1.0, r.1.1, r.1.2, inr r.1.3)) here) k

  pub at_in : (faces : List ℕ) (i : ℕ) → i < length faces → In faces (get_or faces i 0)
  at_in [] i h = absurd (omega arith)
  at_in (f ∷ rest) zero h = inl refl
  at_in (f ∷ rest) (suc i) h = inr (at_in rest i (omega arith))

  pub in_at : (faces : List ℕ) (f : ℕ) → In faces f → (i : ℕ) × (i < length faces) × (get_or faces i 0 ≡ f)
  in_at [] f m = elim m [ ]
  in_at (g ∷ rest) f (inl e) = (0, omega arith, sym e)
  in_at (g ∷ rest) f (inr m) = let i = in_at rest f m in let h : i.0 < length rest = i.1 in (suc i.0, omega arith, i.2)

  -- no face comes in twice
  pub tree_one : {faces : List ℕ} {uncut : List (ℕ × ℕ)} (i j : ℕ) → IsFaceTree Side faces uncut → i < length faces →
      j < length faces → get_or faces i 0 ≡ get_or faces j 0 → i ≡ j
  tree_one zero zero (root f v w s) h g e = refl
  tree_one zero (suc j) (root f v w s) h g e = absurd (omega arith)
  tree_one (suc i) j (root f v w s) h g e = absurd (omega arith)
  tree_one zero zero (grown {faces = faces} a b p q tree in_a out_b at_a at_b) h g e = refl
  tree_one zero (suc j) (grown {faces = faces} a b p q tree in_a out_b at_a at_b) h g e =
      absurd (out_b (subst (λ x. In faces x) (sym e) (at_in faces j (omega arith))))
  tree_one (suc i) zero (grown {faces = faces} a b p q tree in_a out_b at_a at_b) h g e =
      absurd (out_b (subst (λ x. In faces x) e (at_in faces i (omega arith))))
  tree_one (suc i) (suc j) (grown {faces = faces} a b p q tree in_a out_b at_a at_b) h g e =
      ap suc (tree_one i j tree (omega arith) (omega arith) e)
