-- Copies and edges of an opening: with the faces so far, the copies are one more than the edges.
use Rattle.surf_surfaces.proofs.Common.{◌≡◌, ◌≢◌, ℕ, ◌+◌, ◌⊎◌, inl, inr, sym, refl, subst, ap, ◌∙◌, List, [], ◌∷◌, arith, length, here}
use Rattle.surf_opening.specs.Rim.{Among, along, back}
use Rattle.surf_opening.proofs.gluing.RimWords.{IsCopying, Glues, Merged}
use Rattle.surf_opening.specs.Numbers.{Numbers}
use Rattle.surf_opening.specs.Uncut.{Uncut, Copy, CutSide, In, IsFaceTree, root, grown, IsDualTree, IsTrimmed, whole, leaf}
use Rattle.surf_opening.proofs.sides.SideWords.{IsSides, IsDarts, SameCorner, SameSide}
use Rattle.surf_opening.proofs.counts.Counting.{numbers_of, numbers_merged}
use Rattle.surf_opening.proofs.gluing.Gluing.{copying, glues}
use Rattle.surf_opening.proofs.gluing.Tree.{alone, glued_in, copy_apart}
use Rattle.surf_opening.proofs.gluing.Trim.{trimmed_is_open, leaf_closed}

pub among_sym : {p q v w : ℕ} → Among p q v w → Among v w p q
among_sym (along e h) = along (sym e) (sym h)
among_sym (back e h) = back (sym h) (sym e)

pub among_onward : {p q v w x y : ℕ} → Among p q v w → Among v w x y → Among p q x y
among_onward (along e h) (along i j) = along (i ∙ e) (j ∙ h)
among_onward (along e h) (back i j) = back (i ∙ h) (j ∙ e)
among_onward (back e h) (along i j) = back (i ∙ e) (j ∙ h)
among_onward (back e h) (back i j) = along (i ∙ h) (j ∙ e)

pub uncut_among : (uncut : List (ℕ × ℕ)) {v w x y : ℕ} → Among v w x y → Uncut uncut v w → Uncut uncut x y
uncut_among [] m u = elim u [ ]
uncut_among (s ∷ rest) m (inl n) = inl (among_onward n m)
uncut_among (s ∷ rest) m (inr u) = inr (uncut_among rest m u)

module _ {X : Type 0} {Side : ℕ → ℕ → ℕ → Type 0} {Is : X → Type 0} {face first second : X → ℕ} (sides : IsSides Side)
    (darts : IsDarts Side Is face first second) where
  abbrev Corner : List (ℕ × ℕ) → X → X → Type 0
  Corner uncut = SameCorner Side face first uncut

  abbrev Edge : List (ℕ × ℕ) → X → X → Type 0
  Edge uncut = SameSide face first second uncut

  -- so many copies and edges, with k faces
  pub record HasCount (uncut : List (ℕ × ℕ)) (k : ℕ) : Type 0 where
    pub copies : ℕ
    pub edges : ℕ
    pub are_copies : Numbers Is (Corner uncut) copies
    pub are_edges : Numbers Is (Edge uncut) edges
    pub count : copies + k ≡ edges + 1

  count_apart : {n : ℕ} → Numbers Is (λ (x : X) (y : X). x ≡ y) n → HasCount [] 1
  count_apart {n} s = record {
    copies = n;
    edges = n;
    are_copies = numbers_of
        (λ x y i j e. (ap first e, subst (λ z. Copy Side [] (first x) (face x) (face z)) e here))
        (λ x y i j c. darts.one_corner x y i j (copy_apart sides c.1) c.0) s;
    are_edges = numbers_of
        (λ x y i j e. (along (sym (ap first e)) (sym (ap second e)), inl (ap face e)))
        (λ x y i j c. darts.one_side x y i j (elim c.1 [ inl e ↦ e | inr u ↦ elim u [ ] ]) c.0) s;
    count = refl;
  }

  module _ (uncut : List (ℕ × ℕ)) {a b p q : ℕ} (at_a : Side a p q) (at_b : Side b p q) (cut : Uncut uncut p q → ⊥)
      (glue : Glues (CutSide Side uncut) (CutSide Side ((p, q) ∷ uncut)) (Copy Side uncut)
      (Copy Side ((p, q) ∷ uncut)) a b p q) where
    abbrev After : List (ℕ × ℕ)
    After = (p, q) ∷ uncut

    side_a : (x : X) × Is x × (face x ≡ a) × Among (first x) (second x) p q
    side_a = darts.of_side a p q at_a

    side_b : (x : X) × Is x × (face x ≡ b) × Among (first x) (second x) p q
    side_b = darts.of_side b p q at_b

    edges_to : (x y : X) → Is x → Is y → Merged (Edge uncut) side_a.0 side_b.0 x y → Edge After x y
    edges_to x y i j (inl c) = (c.0, elim c.1 [ inl e ↦ inl e | inr u ↦ inr (inr u) ])
    edges_to x y i j (inr (inl c)) =
        let px = among_onward (among_sym side_a.3) c.0.0 in
        let py = among_onward (among_sym side_b.3) c.1.0 in
        (among_onward (among_sym px) py, inr (inl px))
    edges_to x y i j (inr (inr c)) =
        let px = among_onward (among_sym side_b.3) c.0.0 in
        let py = among_onward (among_sym side_a.3) c.1.0 in
        (among_onward (among_sym px) py, inr (inl px))

    side_on : {f v w : ℕ} → Side f v w → Among p q v w → Side f p q
    side_on {f} {v} {w} s (along i j) = subst (λ y. Side f p y) j (subst (λ x. Side f x w) i s)
    side_on {f} {v} {w} s (back i j) = sides.turned (subst (λ y. Side f q y) j (subst (λ x. Side f x w) i s))

    holder : (x : X) → Is x → Among p q (first x) (second x) → (a ≡ face x) ⊎ (b ≡ face x)
    holder x i m = elim (sides.two_faces at_a at_b (side_on (darts.side x i) m)) [
      | inl e ↦ absurd (glue.differ e)
      | inr o ↦ o
    ]

    edges_from : (x y : X) → Is x → Is y → Edge After x y → Merged (Edge uncut) side_a.0 side_b.0 x y
    edges_from x y i j c =
        elim c.1 [
          | inl e ↦ inl (c.0, inl e)
          | inr u ↦ elim u [
            | inr k ↦ inl (c.0, inr k)
            | inl m ↦
                let n = among_onward m c.0 in
                elim (holder x i m) [
                  | inl e ↦ elim (holder y j n) [
                    | inl h ↦ inl (c.0, inl (sym e ∙ h))
                    | inr h ↦ inr (inl (
                      (among_onward side_a.3 m, inl (side_a.2 ∙ e)),
                      (among_onward side_b.3 n, inl (side_b.2 ∙ h)),
                    ))
                  ]
                  | inr e ↦ elim (holder y j n) [
                    | inl h ↦ inr (inr (
                      (among_onward side_b.3 m, inl (side_b.2 ∙ e)),
                      (among_onward side_a.3 n, inl (side_a.2 ∙ h)),
                    ))
                    | inr h ↦ inl (c.0, inl (sym e ∙ h))
                  ]
                ]
          ]
        ]

    edges_apart : Edge uncut side_a.0 side_b.0 → ⊥
    edges_apart c = elim c.1 [
      | inl e ↦ glue.differ (sym side_a.2 ∙ e ∙ side_b.2)
      | inr u ↦ cut (uncut_among uncut side_a.3 u)
    ]

    pub one_edge_less : {n : ℕ} → Numbers Is (Edge uncut) n → (m : ℕ) × (n ≡ m + 1) × Numbers Is (Edge After) m
    one_edge_less s =
        let t = numbers_merged side_a.0 side_b.0 side_a.1 side_b.1 edges_apart s in
        (t.0, t.1, numbers_of edges_to edges_from t.2)

    -- the corner of f at v, as the first of x
    abbrev At : ℕ → ℕ → X → Type 0
    At f v x = (first x ≡ v) × Copy Side uncut v f (face x)

    corner_at : {f v : ℕ} (c x : X) → face c ≡ f → first c ≡ v → Corner uncut c x → At f v x
    corner_at {f} {v} c x e h k = (
      sym k.0 ∙ h,
      subst (λ f. Copy Side uncut v f (face x)) e
          (subst (λ v. Copy Side uncut v (face c) (face x)) h k.1),
    )

    at_corner : {f v : ℕ} (c x : X) → face c ≡ f → first c ≡ v → At f v x → Corner uncut c x
    at_corner {f} {v} c x e h k = (
      h ∙ sym k.0,
      subst (λ v. Copy Side uncut v (face c) (face x)) (sym h)
          (subst (λ f. Copy Side uncut v f (face x)) (sym e) k.1),
    )

    new : IsCopying (Copy Side After)
    new = copying sides After

    after_turned : (x y : X) → Corner After x y → Corner After y x
    after_turned x y c = (sym c.0, subst (λ v. Copy Side After v (face y) (face x)) c.0 (new.turned c.1))

    after_onward : (x y z : X) → Corner After x y → Corner After y z → Corner After x z
    after_onward x y z c d =
        (c.0 ∙ d.0, new.onward c.1 (subst (λ v. Copy Side After v (face y) (face z)) (sym c.0) d.1))

    -- no more is joined than a and b, whose corners meet afterwards
    merged_to : (E : X → X → Type 0) → ((x y : X) → E x y → Corner After x y) → (c d : X) → Corner After c d →
        (x y : X) → Merged E c d x y → Corner After x y
    merged_to E to c d meet x y (inl e) = to x y e
    merged_to E to c d meet x y (inr (inl e)) =
        after_onward x c y (after_turned c x (to c x e.0)) (after_onward c d y meet (to d y e.1))
    merged_to E to c d meet x y (inr (inr e)) =
        after_onward x d y (after_turned d x (to d x e.0)) (after_onward d c y (after_turned c d meet) (to c y e.1))

    before_after : (x y : X) → Corner uncut x y → Corner After x y
    before_after x y c = (c.0, glue.same c.1)

    -- the corners of a and b at an end v of the glued edge
    module _ {v w : ℕ} (from_a : Side a v w) (from_b : Side b v w) (meet : Copy Side After v a b) where
      corner_a : (x : X) × Is x × (face x ≡ a) × (first x ≡ v)
      corner_a = darts.of_corner a v w from_a

      corner_b : (x : X) × Is x × (face x ≡ b) × (first x ≡ v)
      corner_b = darts.of_corner b v w from_b

      corners_meet : Corner After corner_a.0 corner_b.0
      corners_meet = (
        corner_a.3 ∙ sym corner_b.3,
        subst (λ v. Copy Side After v (face corner_a.0) (face corner_b.0)) (sym corner_a.3)
            (subst (λ f. Copy Side After v f (face corner_b.0)) (sym corner_a.2)
            (subst (λ g. Copy Side After v a g) (sym corner_b.2) meet)),
      )

      crosses : (x y : X) → first x ≡ v → first y ≡ v → (Copy Side uncut v a (face x) × Copy Side uncut v b (face y))
          ⊎ (Copy Side uncut v b (face x) × Copy Side uncut v a (face y)) →
          (Corner uncut corner_a.0 x × Corner uncut corner_b.0 y)
          ⊎ (Corner uncut corner_b.0 x × Corner uncut corner_a.0 y)
      crosses x y e h (inl c) =
          inl (
            at_corner corner_a.0 x corner_a.2 corner_a.3 (e, c.0),
            at_corner corner_b.0 y corner_b.2 corner_b.3
                (h, c.1),
          )
      crosses x y e h (inr c) =
          inr (
            at_corner corner_b.0 x corner_b.2 corner_b.3 (e, c.0),
            at_corner corner_a.0 y corner_a.2 corner_a.3
                (h, c.1),
          )

      corners_apart : (Copy Side uncut v a b → ⊥) → Corner uncut corner_a.0 corner_b.0 → ⊥
      corners_apart n c = n
          (subst (λ g. Copy Side uncut v a g) corner_b.2 (corner_at corner_a.0 corner_b.0 corner_a.2 corner_a.3 c).1)

    -- a face that stood alone: both ends are joined
    module _ (apart : (v : ℕ) → Copy Side uncut v a b → ⊥) where
      abbrev AtP : X → X → Type 0
      AtP = Merged (Corner uncut) (corner_a at_a at_b glue.at_first).0 (corner_b at_a at_b glue.at_first).0

      abbrev AtBoth : X → X → Type 0
      AtBoth = Merged AtP (corner_a (sides.turned at_a) (sides.turned at_b) glue.at_second).0
          (corner_b (sides.turned at_a) (sides.turned at_b) glue.at_second).0

      at_p_to : (x y : X) → AtP x y → Corner After x y
      at_p_to = merged_to (Corner uncut) before_after (corner_a at_a at_b glue.at_first).0
          (corner_b at_a at_b glue.at_first).0 (corners_meet at_a at_b glue.at_first)

      at_both_to : (x y : X) → AtBoth x y → Corner After x y
      at_both_to = merged_to AtP at_p_to (corner_a (sides.turned at_a) (sides.turned at_b) glue.at_second).0
          (corner_b (sides.turned at_a) (sides.turned at_b) glue.at_second).0
          (corners_meet (sides.turned at_a) (sides.turned at_b) glue.at_second)

      to_both : (x y : X) → Corner After x y → AtBoth x y
      to_both x y c = elim (glue.split c.1) [
        | inl k ↦ inl (inl (c.0, k))
        | inr k ↦ elim k.at [
          | inl e ↦ inl (inr (crosses at_a at_b glue.at_first x y e (sym c.0 ∙ e)
              (subst (λ v. (Copy Side uncut v a (face x) × Copy Side uncut v b (face y))
              ⊎ (Copy Side uncut v b (face x) × Copy Side uncut v a (face y))) e k.sides)))
          | inr e ↦ inr (elim (crosses (sides.turned at_a) (sides.turned at_b) glue.at_second x y e (sym c.0 ∙ e)
              (subst (λ v. (Copy Side uncut v a (face x) × Copy Side uncut v b (face y))
              ⊎ (Copy Side uncut v b (face x) × Copy Side uncut v a (face y))) e k.sides)) [
                | inl m ↦ inl (inl m.0, inl m.1)
                | inr m ↦ inr (inl m.0, inl m.1)
              ])
        ]
      ]

      pub two_corners_less : {n : ℕ} → Numbers Is (Corner uncut) n → (m : ℕ) × (n ≡ m + 2) × Numbers Is (Corner After) m
      two_corners_less {n} s =
          let ap = corner_a at_a at_b glue.at_first in
          let bp = corner_b at_a at_b glue.at_first in
          let aq = corner_a (sides.turned at_a) (sides.turned at_b) glue.at_second in
          let bq = corner_b (sides.turned at_a) (sides.turned at_b) glue.at_second in
          let first_one = numbers_merged ap.0 bp.0 ap.1 bp.1 (corners_apart at_a at_b glue.at_first (apart p)) s in
          let still : AtP aq.0 bq.0 → ⊥ = λ m. elim m [
            | inl c ↦ corners_apart (sides.turned at_a) (sides.turned at_b) glue.at_second (apart q) c
            | inr o ↦ elim o [
              | inl c ↦ sides.apart at_a (sym ap.3 ∙ c.0.0 ∙ aq.3)
              | inr c ↦ sides.apart at_a (sym bp.3 ∙ c.0.0 ∙ aq.3)
            ]
          ] in
          let second_one = numbers_merged aq.0 bq.0 aq.1 bq.1 still first_one.2 in
          let e : n ≡ first_one.0 + 1 = first_one.1 in
          let h : first_one.0 ≡ second_one.0 + 1 = second_one.1 in (
            second_one.0,
            omega arith,
            numbers_of {n = second_one.0} (λ x y i j. at_both_to x y)
                (λ x y i j. to_both x y) second_one.2,
          )

    -- a leaf at p: the copies at q are joined
    module _ (closed : Copy Side uncut p a b) (apart : Copy Side uncut q a b → ⊥) where
      to_q : (x y : X) → Corner After x y →
          Merged (Corner uncut) (corner_a (sides.turned at_a) (sides.turned at_b) glue.at_second).0
          (corner_b (sides.turned at_a) (sides.turned at_b) glue.at_second).0 x y
      to_q x y c = elim (glue.split c.1) [
        | inl k ↦ inl (c.0, k)
        | inr k ↦ elim k.at [
          | inl e ↦ inl (
            c.0,
            subst (λ v. Copy Side uncut v (face x) (face y)) (sym e) (elim k.sides [
              | inl m ↦ eqv.onward (eqv.turned (subst (λ v. Copy Side uncut v a (face x)) e m.0))
                  (eqv.onward closed (subst (λ v. Copy Side uncut v b (face y)) e m.1))
              | inr m ↦ eqv.onward (eqv.turned (subst (λ v. Copy Side uncut v b (face x)) e m.0))
                  (eqv.onward (eqv.turned closed) (subst (λ v. Copy Side uncut v a (face y)) e m.1))
            ]),
          )
          | inr e ↦ inr (crosses (sides.turned at_a) (sides.turned at_b) glue.at_second x y e (sym c.0 ∙ e)
              (subst (λ v. (Copy Side uncut v a (face x) × Copy Side uncut v b (face y))
              ⊎ (Copy Side uncut v b (face x) × Copy Side uncut v a (face y))) e k.sides))
        ]
      ]
        where
          eqv : IsCopying (Copy Side uncut)
          eqv = copying sides uncut

      pub one_corner_less : {n : ℕ} → Numbers Is (Corner uncut) n → (m : ℕ) × (n ≡ m + 1) × Numbers Is (Corner After) m
      one_corner_less s =
          let aq = corner_a (sides.turned at_a) (sides.turned at_b) glue.at_second in
          let bq = corner_b (sides.turned at_a) (sides.turned at_b) glue.at_second in
          let t = numbers_merged aq.0 bq.0 aq.1 bq.1
          (corners_apart (sides.turned at_a) (sides.turned at_b) glue.at_second apart) s in (
            t.0,
            t.1,
            numbers_of
                (λ x y i j. merged_to (Corner uncut) before_after aq.0 bq.0
                (corners_meet (sides.turned at_a) (sides.turned at_b) glue.at_second) x y) (λ x y i j. to_q x y) t.2,
          )

  module _ {n : ℕ} (all : Numbers Is (λ (x : X) (y : X). x ≡ y) n) where
    pub tree_count : {faces : List ℕ} {uncut : List (ℕ × ℕ)} → IsFaceTree Side faces uncut →
        HasCount uncut (length faces)
    tree_count (root f v w t) = count_apart all
    tree_count (grown {faces = faces} {uncut = uncut} a b p q tree in_a out_b at_a at_b) =
        let before = tree_count tree in
        let differ : a ≢ b = λ e. out_b (subst (λ x. In faces x) e in_a) in
        let cut = λ (u : Uncut uncut p q). out_b (glued_in sides tree u at_b) in
        let glue = glues sides uncut at_a at_b differ cut in
        let copies = two_corners_less uncut at_a at_b cut glue
        (λ v c. differ (sym (alone sides tree out_b ((copying sides uncut).turned c)))) before.are_copies in
        let edges = one_edge_less uncut at_a at_b cut glue before.are_edges in
        let e : before.copies ≡ copies.0 + 2 = copies.1 in
        let h : before.edges ≡ edges.0 + 1 = edges.1 in
        record {
          copies = copies.0;
          edges = edges.0;
          are_copies = copies.2;
          are_edges = edges.2;
          count =
              omega (arith, before.count);
        }

    pub trimmed_count : {tree uncut : List (ℕ × ℕ)} (dual : IsDualTree Side tree) (k : ℕ) → length dual.faces ≡ k →
        IsTrimmed Side tree uncut → HasCount uncut k
    trimmed_count {tree} dual k same whole = subst (λ k. HasCount tree k) same (tree_count dual.grows)
    trimmed_count dual k same (leaf {uncut = uncut} a p q trimmed r only more) =
        let before = trimmed_count dual k same trimmed in
        let opened = trimmed_is_open sides dual trimmed in
        let other = leaf_closed sides opened r only in
        let glue = glues sides uncut r.0 other.1 other.2 r.1 in
        let copies = one_corner_less uncut r.0 other.1 r.1 glue other.3
        (λ c. other.2 (opened.is_rim.proper r (other.1, r.1) other.3 c)) before.are_copies in
        let edges = one_edge_less uncut r.0 other.1 r.1 glue before.are_edges in
        let e : before.copies ≡ copies.0 + 1 = copies.1 in
        let h : before.edges ≡ edges.0 + 1 = edges.1 in
        record {
          copies = copies.0;
          edges = edges.0;
          are_copies = copies.2;
          are_edges = edges.2;
          count =
              omega (arith, before.count);
        }

    -- a tree alone: two copies less for each further face
    pub tree_copies : {faces : List ℕ} {uncut : List (ℕ × ℕ)} → IsFaceTree Side faces uncut →
        (m : ℕ) × Numbers Is (Corner uncut) m × (m + (length faces + length faces) ≡ n + 2)
    unfolding count_apart
    tree_copies (root f v w t) = let before = count_apart all in (n, before.are_copies, refl)
    tree_copies (grown {faces = faces} {uncut = uncut} a b p q tree in_a out_b at_a at_b) =
        let before = tree_copies tree in
        let differ : a ≢ b = λ e. out_b (subst (λ x. In faces x) e in_a) in
        let cut = λ (u : Uncut uncut p q). out_b (glued_in sides tree u at_b) in
        let glue = glues sides uncut at_a at_b differ cut in
        let copies = two_corners_less uncut at_a at_b cut glue
        (λ v c. differ (sym (alone sides tree out_b ((copying sides uncut).turned c)))) before.1 in
        let e : before.0 ≡ copies.0 + 2 = copies.1 in
        (copies.0, copies.2, omega (arith, before.2))
