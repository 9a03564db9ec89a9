-- The sides of a closed surface are sides of polygons, two faces at each edge.
use Rattle.surf_surfaces.proofs.Common.{◌≡◌, ◌≢◌, ℕ, ◌<◌, ◌≤◌, ◌⊎◌, inl, inr, sym, refl, subst, ap, ◌∙◌, [], length, get_or, true, arith, cases_eq, cases_lt, Mesh, IsMesh, IsFace, pair, face_at, face_count, faces_with, has_side, HasEdge, after, All-get_or}
use Rattle.surf_opening.specs.Rim.{Among, along, back}
use Rattle.surf_opening.proofs.gluing.RimWords.{Reaches}
use Rattle.surf_opening.specs.Side.{Side, IsPlace}
use Rattle.surf_opening.proofs.sides.SideWords.{IsSides, IsDarts}
use Rattle.surf_opening.proofs.gluing.Rims.{among_turn}
use Rattle.surf_opening.proofs.counts.Count.{among_sym, among_onward}
use Rattle.surf_opening.proofs.sides.Polygons.{has_side_from, has_side_to, pair_among, among_pair, same_pair}
use Rattle.surf_opening.proofs.gluing.Rings.{OnFace, corner_one, side_one, on_corner, on_apart, on_other, on_two, on_round}
use Rattle.surf_opening.proofs.counts.Places.{faces_counted}

module _ (mesh : Mesh) where
  pub on_face : {f v w : ℕ} → Side mesh f v w → OnFace (face_at mesh f) v w
  on_face {f} {v} {w} s = let found = has_side_to (face_at mesh f) (pair v w) s.has.1 in
      (found.0, found.1, among_pair (sym found.2))

  pub from_face : {f v w : ℕ} → f < face_count mesh → OnFace (face_at mesh f) v w → Side mesh f v w
  from_face {f} {v} {w} h s = record { has = (h, has_side_from (face_at mesh f) s.0 v w s.1 s.2) }

  pub in_mesh : {f v w : ℕ} → Side mesh f v w → f < face_count mesh
  in_mesh s = s.has.0

  pub side_turned : {f v w : ℕ} → Side mesh f v w → Side mesh f w v
  side_turned {f} {v} {w} s =
      record {
        has = (
          s.has.0,
          subst (λ p. has_side p (face_at mesh f) ≡ true)
              (pair_among {v = v} {w = w} {x = w} {y = v} (back refl refl)) s.has.1,
        );
      }

  -- two faces hold the edge, as a list has them: then each has another, and there is no third
  pub other_of_two : (p : ℕ × ℕ) → length (faces_with mesh p) ≡ 2 → (f : ℕ) → HasEdge mesh f p →
      (g : ℕ) × HasEdge mesh g p × (f ≢ g)
  other_of_two p two f h =
      let s = faces_counted mesh p in
      let a = s.onto 0 (omega arith) in
      let b = s.onto 1 (omega arith) in
      elim (cases_eq f a.0) [
        | inr ne ↦ (a.0, a.1, ne)
        | inl e ↦ (b.0, b.1, λ k. let i : 0 ≡ 1 = sym a.2 ∙ ap s.number (sym e ∙ k) ∙ b.2 in absurd (omega arith))
      ]

  pub no_third_face : (p : ℕ × ℕ) → length (faces_with mesh p) ≤ 2 → (f g h : ℕ) → HasEdge mesh f p → HasEdge mesh g p →
      HasEdge mesh h p → (f ≡ g) ⊎ ((f ≡ h) ⊎ (g ≡ h))
  no_third_face p two f g h a b c =
      let s = faces_counted mesh p in
      let i = s.below f a in
      let j = s.below g b in
      let k = s.below h c in
      elim (cases_eq (s.number f) (s.number g)) [
        | inl e ↦ inl (s.tells f g a b e)
        | inr ne ↦ elim (cases_eq (s.number f) (s.number h)) [
          | inl e ↦ inr (inl (s.tells f h a c e))
          | inr nh ↦ inr (inr (s.tells g h b c (omega arith)))
        ]
      ]

  pub at_most_two : (p : ℕ × ℕ) →
      ((f g h : ℕ) → HasEdge mesh f p → HasEdge mesh g p → HasEdge mesh h p → (f ≡ g) ⊎ ((f ≡ h) ⊎ (g ≡ h))) →
      length (faces_with mesh p) ≤ 2
  at_most_two p two = elim (cases_lt 2 (length (faces_with mesh p))) [
    | inr k ↦ k
    | inl k ↦
        let s = faces_counted mesh p in
        let a = s.onto 0 (omega arith) in
        let b = s.onto 1 (omega arith) in
        let c = s.onto 2 (omega arith) in
        absurd (elim (two a.0 b.0 c.0 a.1 b.1 c.1) [
          | inl i ↦ apart 0 1 (sym a.2 ∙ ap s.number i ∙ b.2) (omega arith)
          | inr o ↦ elim o [
            | inl i ↦ apart 0 2 (sym a.2 ∙ ap s.number i ∙ c.2) (omega arith)
            | inr i ↦ apart 1 2 (sym b.2 ∙ ap s.number i ∙ c.2) (omega arith)
          ]
        ])
  ]
    where
      apart : (m n : ℕ) → m ≡ n → m < n → ⊥
      apart m n e h = omega arith

  pub one_face : (p : ℕ × ℕ) (f : ℕ) → HasEdge mesh f p → ((g : ℕ) → HasEdge mesh g p → f ≡ g) →
      length (faces_with mesh p) ≡ 1
  one_face p f h one =
      let s = faces_counted mesh p in
      let some : s.number f < length (faces_with mesh p) = s.below f h in
      elim (cases_lt 1 (length (faces_with mesh p))) [
        | inr k ↦ omega arith
        | inl k ↦
            let a = s.onto 0 (omega arith) in
            let b = s.onto 1 (omega arith) in
            absurd (apart 0 1 (sym a.2 ∙ ap s.number (sym (one a.0 a.1) ∙ one b.0 b.1) ∙ b.2) (omega arith))
      ]
    where
      apart : (m n : ℕ) → m ≡ n → m < n → ⊥
      apart m n e h = omega arith

  pub same_face : (p : ℕ × ℕ) (f g : ℕ) → length (faces_with mesh p) ≡ 1 → HasEdge mesh f p → HasEdge mesh g p → f ≡ g
  same_face p f g one h i =
      let s = faces_counted mesh p in
      let a : s.number f < length (faces_with mesh p) = s.below f h in
      let b : s.number g < length (faces_with mesh p) = s.below g i in
      s.tells f g h i (omega arith)

  module _ (is_mesh : IsMesh mesh) where
    pub face_is : (f : ℕ) → f < face_count mesh → IsFace mesh.vertices (face_at mesh f)
    face_is f h = All-get_or (IsFace mesh.vertices) mesh.faces f [] h is_mesh

    -- the sides of one face but p q
    face_round : {f p q v w x y : ℕ} → Side mesh f p q → Side mesh f v w → Side mesh f x y → (Among p q v w → ⊥) →
        (Among p q x y → ⊥) →
        Reaches (λ g s t. (f ≡ g) × Side mesh g s t × (Among p q s t → ⊥)) (λ s g h. g ≡ h) f x y f v w
    face_round {f} {p} {q} {v} {w} {x} {y} s r t nr nt =
        let i = face_is f (in_mesh s) in
        let j = on_face s in
        let k = on_face r in
        let l = on_face t in
        on_round (face_at mesh f) i.large i.distinct (λ g s t. (f ≡ g) × Side mesh g s t × (Among p q s t → ⊥))
        (λ s g h. g ≡ h)
        (record { own = refl; turned = λ e. sym e; onward = λ e h. e ∙ h }) f j.0 j.1
        (λ o g n. (
          refl,
          from_face (in_mesh s) (o, g, along refl refl),
          λ m. n (sym (side_one (face_at mesh f) i.large i.distinct j.0 o j.1 g (among_onward j.2 m))),
        ))
        (λ o g n. (
          refl,
          from_face (in_mesh s) (o, g, back refl refl),
          λ m. n (sym (side_one (face_at mesh f) i.large i.distinct j.0 o j.1 g (among_onward j.2 (among_turn m)))),
        ))
        k.0 l.0 k.1 l.1
        (λ e. nr (among_onward (among_sym j.2)
        (subst (λ o. Among (get_or (face_at mesh f) o 0) (get_or (face_at mesh f) (after (length (face_at mesh f)) o) 0)
        v w) e k.2)))
        (λ e. nt (among_onward (among_sym j.2)
        (subst (λ o. Among (get_or (face_at mesh f) o 0) (get_or (face_at mesh f) (after (length (face_at mesh f)) o) 0)
        x y) e l.2)))
        k.2 l.2

    pub is_darts : IsDarts (Side mesh) (IsPlace mesh) (λ x. x.0) (λ x. get_or (face_at mesh x.0) x.1 0)
        (λ x. get_or (face_at mesh x.0) (after (length (face_at mesh x.0)) x.1) 0)
    is_darts = record {
      side = λ x h. from_face h.0 (x.1, h.1, along refl refl);
      one_corner = λ x y h g e k. same_pair e (let f = face_is x.0 h.0 in
          corner_one (face_at mesh x.0) f.large f.distinct x.1 y.1 h.1
          (subst (λ f. y.1 < length (face_at mesh f)) (sym e) g.1)
          (k ∙ ap (λ f. get_or (face_at mesh f) y.1 0) (sym e)));
      one_side = λ x y h g e m. same_pair e (let f = face_is x.0 h.0 in
          side_one (face_at mesh x.0) f.large f.distinct x.1 y.1 h.1
          (subst (λ f. y.1 < length (face_at mesh f)) (sym e) g.1)
          (subst (λ f. Among (get_or (face_at mesh x.0) x.1 0)
          (get_or (face_at mesh x.0) (after (length (face_at mesh x.0)) x.1) 0) (get_or (face_at mesh f) y.1 0)
          (get_or (face_at mesh f) (after (length (face_at mesh f)) y.1) 0)) (sym e) m));
      of_corner = λ f v w s. let i = face_is f (in_mesh s) in let o =
          on_corner (face_at mesh f) i.large i.distinct (on_face s) in ((f, o.0), (in_mesh s, o.1), refl, o.2);
      of_side = λ f v w s. let o = on_face s in ((f, o.0), (in_mesh s, o.1), refl, o.2);
    }

    pub is_sides : ((p : ℕ × ℕ) (f : ℕ) → HasEdge mesh f p → length (faces_with mesh p) ≡ 2) → IsSides (Side mesh)
    is_sides two = record {
      turned = λ s. side_turned s;
      apart = λ {f} s. let i = face_is f (in_mesh s) in on_apart (face_at mesh f) i.large i.distinct (on_face s);
      other_face = λ {f} {v} {w} s. let o = other_of_two (pair v w) (two (pair v w) f s.has) f s.has in
          (o.0, record { has = o.1 }, o.2);
      two_faces = λ {f} {g} {h} {v} {w} r s t. let e = two (pair v w) f r.has in
          no_third_face (pair v w) (omega arith) f g h r.has s.has t.has;
      other_side = λ {f} s. let i = face_is f (in_mesh s) in let o =
          on_other (face_at mesh f) i.large i.distinct (on_face s) in (o.0, from_face (in_mesh s) o.1, o.2);
      two_sides = λ {f} s t u. let i = face_is f (in_mesh s) in
          on_two (face_at mesh f) i.large i.distinct (on_face s) (on_face t) (on_face u);
      round = λ {f} {p} {q} {v} {w} {x} {y} s r t nr nt. face_round s r t nr nt;
    }
