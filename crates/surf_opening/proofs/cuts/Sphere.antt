-- Where the characteristic is 2, a cut in trimming has two leaves at least.
use Rattle.std.proofs.Common.{◌≡◌, ◌≢◌, ℕ, suc, ◌+◌, ◌-◌, ◌<◌, ◌≤◌, ◌⊎◌, inl, inr, sym, refl, subst, ap, ◌∙◌, List, [], ◌∷◌, length, get_or, arith, cond, eqb, eq-eqb, ne_eqb}
use Rattle.std.proofs.lemmas.Bool.{cases_eq, cases_lt, cond-true, cond-false}
use Rattle.surf_opening.specs.Rim.{Among, along, back}
use Rattle.surf_opening.specs.Numbers.{Numbers}
use Rattle.surf_opening.specs.Uncut.{Copy, CutSide, In, IsFaceTree, root, grown, IsDualTree, IsTrimmed, whole, leaf, AreEdges}
use Rattle.surf_opening.proofs.sides.SideWords.{IsSides, IsDarts, SameCorner, IsOneFan}
use Rattle.surf_opening.proofs.gluing.Rims.{among_cases}
use Rattle.surf_opening.proofs.gluing.Tree.{glued_in}
use Rattle.surf_opening.proofs.gluing.Trim.{IsOpen, trimmed_is_open, leaf_closed}
use Rattle.surf_opening.proofs.counts.Counting.{pigeons}
use Rattle.surf_opening.proofs.openings.Slits.{no_other, always_paired}

one_end : {p q v w y : ℕ} → Among p q v w → Among p q v y → w ≡ y
one_end (along a b) (along c d) = b ∙ sym d
one_end (along a b) (back c d) = b ∙ sym c ∙ a ∙ sym d
one_end (back a b) (along c d) = b ∙ sym c ∙ a ∙ sym d
one_end (back a b) (back c d) = b ∙ sym d

among_second : {p q y : ℕ} → Among p q q y → y ≡ p
among_second (along e h) = h ∙ e
among_second (back e h) = h

module _ {Side : ℕ → ℕ → ℕ → Type 0} (sides : IsSides Side) where
  -- each vertex of a tree's faces has a cut edge
  tree_corner_cut : {faces : List ℕ} {tree : List (ℕ × ℕ)} (f v w : ℕ) → IsFaceTree Side faces tree → In faces f →
      Side f v w → (g : ℕ) × (y : ℕ) × CutSide Side tree g v y
  tree_corner_cut f v w (root r x y t) i s = (f, w, (s, λ u. u))
  tree_corner_cut f v w (grown {faces = faces} {uncut = uncut} a b p q tree in_a out_b at_a at_b) i s =
      elim i [
        | inl e ↦ at_new v w (subst (λ f. Side f v w) e s)
        | inr k ↦
            let found = tree_corner_cut f v w tree k s in
            elim (among_cases p q v found.1) [
              | inr n ↦ (found.0, found.1, (found.2.0, λ u. elim u [ inl m ↦ n m | inr l ↦ found.2.1 l ]))
              | inl m ↦ at_new v found.1 (on_pair m)
            ]
      ]
    where
      on_pair : {v w : ℕ} → Among p q v w → Side b v w
      on_pair {v} {w} (along e h) = subst (λ x. Side b x w) (sym e) (subst (λ y. Side b p y) (sym h) at_b)
      on_pair {v} {w} (back e h) = subst (λ x. Side b x w) (sym e) (subst (λ y. Side b q y) (sym h) (sides.turned at_b))

      stays : (v w : ℕ) → Side b v w → (Among p q v w → ⊥) → (g : ℕ) × (y : ℕ) × CutSide Side ((p, q) ∷ uncut) g v y
      stays v w s n = (b, w, (s, λ u. elim u [ inl m ↦ n m | inr l ↦ out_b (glued_in sides tree l s) ]))

      at_new : (v w : ℕ) → Side b v w → (g : ℕ) × (y : ℕ) × CutSide Side ((p, q) ∷ uncut) g v y
      at_new v w s = elim (among_cases p q v w) [
        | inr n ↦ stays v w s n
        | inl m ↦ let other = sides.other_side s in stays v other.0 other.1 (λ o. other.2 (one_end m o))
      ]

  -- the leaves whose edges were taken, newest first
  abbrev pub taken : {tree uncut : List (ℕ × ℕ)} → IsTrimmed Side tree uncut → List ℕ
  taken whole = []
  taken (leaf a p q trimmed r only more) = p ∷ taken trimmed

  module _ {tree : List (ℕ × ℕ)} (dual : IsDualTree Side tree) where
    -- each vertex is a leaf that was taken, or has a cut edge
    pub taken_or_cut : {uncut : List (ℕ × ℕ)} (f v w : ℕ) (trimmed : IsTrimmed Side tree uncut) → Side f v w →
        In (taken trimmed) v ⊎ ((g : ℕ) × (y : ℕ) × CutSide Side uncut g v y)
    taken_or_cut f v w whole s = inr (tree_corner_cut f v w dual.grows (dual.every_face f v w s) s)
    taken_or_cut f v w (leaf {uncut = uncut} a p q trimmed r only more) s =
        let opened = trimmed_is_open sides dual trimmed in
        elim (taken_or_cut f v w trimmed s) [
          | inl i ↦ inl (inr i)
          | inr k ↦ elim (among_cases p q v k.1) [
            | inr n ↦ inr (k.0, k.1, (k.2.0, λ u. elim u [ inl m ↦ n m | inr l ↦ k.2.1 l ]))
            | inl m ↦ elim m [
              | along e h ↦ inl (inl e)
              | back e h ↦ inr (subst (λ v. (g : ℕ) × (y : ℕ) × CutSide Side ((p, q) ∷ uncut) g v y) (sym e)
                  (at_q opened (opened.is_rim.another (opened.is_rim.turned r))))
            ]
          ]
        ]
      where
        -- the other end of a leaf's edge keeps another
        at_q : IsOpen sides uncut →
            ((g : ℕ) × (y : ℕ) × CutSide Side uncut g q y × Copy Side uncut q a g × (a ≡ g → p ≡ y → ⊥)) →
            (g : ℕ) × (y : ℕ) × CutSide Side ((p, q) ∷ uncut) g q y
        at_q opened o = elim (cases_eq o.1 p) [
          | inr n ↦ (o.0, o.1, (o.2.0, λ u. elim u [ inl m ↦ n (among_second m) | inr l ↦ o.2.1 l ]))
          | inl e ↦
              let other = leaf_closed sides opened r only in
              let side : CutSide Side uncut o.0 q p = subst (λ y. CutSide Side uncut o.0 q y) e o.2 in
              let b_side : CutSide Side uncut other.0 q p = opened.is_rim.turned (other.1, r.1) in
              absurd (elim (opened.is_rim.two_faces (opened.is_rim.turned r) b_side side) [
                | inl h ↦ other.2 h
                | inr k ↦ elim k [
                  | inl h ↦ o.4 h (sym e)
                  | inr h ↦ other.2 (opened.is_rim.proper r (other.1, r.1) other.3
                      (subst (λ g. Copy Side uncut q a g) (sym h) o.3))
                ]
              ])
        ]

-- Each vertex has a number of its own, and a second one unless it is in the list: so twice the vertices are no more
-- than numbers and list.
module _ {X : Type 0} (Is : X → Type 0) (first number : X → ℕ) (V n : ℕ) (below : (x : X) → Is x → number x < n)
    (tells : (x y : X) → Is x → Is y → number x ≡ number y → first x ≡ first y)
    (chosen : ℕ → X) (chosen_is : (v : ℕ) → v < V → Is (chosen v) × (first (chosen v) ≡ v)) (l : List ℕ) where
  pub record Second (v : ℕ) : Type 0 where
    pub place : X
    pub is : Is place
    pub at_v : first place ≡ v
    pub other : number place ≢ number (chosen v)

  data Seat (k j : ℕ) : Type 0 where
    first_copy : k < V → j ≡ number (chosen k) → Seat k j
    listed : (v i : ℕ) → k ≡ V + v → i < length l → get_or l i 0 ≡ v → j ≡ n + i → Seat k j
    second_copy : (v : ℕ) (s : Second v) → k ≡ V + v → v < V → j ≡ number s.place → Seat k j

  seat_one : (k m j : ℕ) → Seat k j → Seat m j → k ≡ m
  seat_one k m j (first_copy h e) (first_copy g f) =
      let a = chosen_is k h in
      let b = chosen_is m g in
      sym a.1 ∙ (tells (chosen k) (chosen m) a.0 b.0 (sym e ∙ f)) ∙ b.1
  seat_one k m j (first_copy h e) (listed v i f g a b) = let c = below (chosen k) (chosen_is k h).0 in
      absurd (omega arith)
  seat_one k m j (first_copy h e) (second_copy v s f g b) =
      let a = chosen_is k h in
      let same : k ≡ v = sym a.1 ∙ (tells (chosen k) s.place a.0 s.is (sym e ∙ b)) ∙ s.at_v in
      absurd (s.other (sym b ∙ e ∙ ap (λ v. number (chosen v)) same))
  seat_one k m j (listed v i f g a b) (first_copy h e) = let c = below (chosen m) (chosen_is m h).0 in
      absurd (omega arith)
  seat_one k m j (listed v i f g a b) (listed w d e h c o) =
      let same : i ≡ d = omega arith in
      let at : v ≡ w = sym a ∙ ap (λ i. get_or l i 0) same ∙ c in
      f ∙ ap (λ v. V + v) at ∙ sym e
  seat_one k m j (listed v i f g a b) (second_copy w s e h o) = let c = below s.place s.is in absurd (omega arith)
  seat_one k m j (second_copy v s f g b) (first_copy h e) =
      let a = chosen_is m h in
      let same : m ≡ v = sym a.1 ∙ (tells (chosen m) s.place a.0 s.is (sym e ∙ b)) ∙ s.at_v in
      absurd (s.other (sym b ∙ e ∙ ap (λ v. number (chosen v)) same))
  seat_one k m j (second_copy v s f g b) (listed w d e h c o) = let c = below s.place s.is in absurd (omega arith)
  seat_one k m j (second_copy v s f g b) (second_copy w t e h o) =
      let at : v ≡ w = sym s.at_v ∙ (tells s.place t.place s.is t.is (sym b ∙ o)) ∙ t.at_v in
      f ∙ ap (λ v. V + v) at ∙ sym e

  pub crowd : ((v : ℕ) → v < V → In l v ⊎ Second v) → V + V ≤ n + length l
  crowd two = pigeons (V + V) (n + length l) Seat
      (λ k h. elim (cases_lt k V) [
        | inl a ↦ let c = below (chosen k) (chosen_is k a).0 in (number (chosen k), omega arith, first_copy a refl)
        | inr a ↦
            let v : ℕ = k - V in
            let e : k ≡ V + (k - V) = omega arith in
            elim (two (k - V) (omega arith)) [
              | inl i ↦ let at = in_list l (k - V) i in
                  (n + at.0, omega (arith, at.1), listed (k - V) at.0 e at.1 at.2 refl)
              | inr s ↦ let c = below s.place s.is in
                  (number s.place, omega arith, second_copy (k - V) s e (omega arith) refl)
            ]
      ])
      (λ k m j h g a b. seat_one k m j a b)
    where
      in_list : (l : List ℕ) (f : ℕ) → In l f → (i : ℕ) × (i < length l) × (get_or l i 0 ≡ f)
      in_list [] f m = elim m [ ]
      in_list (g ∷ rest) f (inl e) = (0, omega arith, sym e)
      in_list (g ∷ rest) f (inr m) = let i = in_list rest f m in let h : i.0 < length rest = i.1 in
          (suc i.0, omega arith, i.2)

-- Two different cut edges at v make two copies of v.
module _ {Side : ℕ → ℕ → ℕ → Type 0} (sides : IsSides Side) {X : Type 0} {Is : X → Type 0} {face first second : X → ℕ}
    (darts : IsDarts Side Is face first second)
    (uncut : List (ℕ × ℕ)) (are : AreEdges Side uncut) (V n : ℕ)
    (copies : Numbers Is (SameCorner Side face first uncut) n)
    (chosen : ℕ → X) (chosen_is : (v : ℕ) → v < V → Is (chosen v) × (first (chosen v) ≡ v)) (l : List ℕ) where
  pub second_at : {v f g w y : ℕ} → v < V → IsOneFan Side v → CutSide Side uncut f v w → CutSide Side uncut g v y →
      w ≢ y → Second Is first copies.number V n copies.below (λ x y i j e. (copies.tells x y i j e).0) chosen chosen_is
      l v
  second_at {v} {f} {g} {w} {y} v_below fan r s differ =
      let other = sides.other_face r.0 in
      let a = darts.of_corner f v w r.0 in
      let b = darts.of_corner other.0 v w other.1 in
      let apart : copies.number a.0 ≢ copies.number b.0 = λ e.
      let c = (copies.tells a.0 b.0 a.1 b.1 e).1 in
      differ (sym (no_other sides darts v fan uncut are r (other.1, r.1) other.2
      (subst (λ v. Copy Side uncut v f other.0) a.3
      (subst (λ f. Copy Side uncut (first a.0) f other.0) a.2
      (subst (λ g. Copy Side uncut (first a.0) (face a.0) g) b.2 c))) g y s)) in
      elim (cases_eq (copies.number a.0) (copies.number (chosen v))) [
        | inr n ↦ record { place = a.0; is = a.1; at_v = a.3; other = n }
        | inl e ↦ record { place = b.0; is = b.1; at_v = b.3; other = λ h. apart (e ∙ sym h) }
      ]

-- One number more at r: with three there, the list is longer still.
module _ {X : Type 0} (Is : X → Type 0) (first number : X → ℕ) (V n : ℕ) (below : (x : X) → Is x → number x < n)
    (tells : (x y : X) → Is x → Is y → number x ≡ number y → first x ≡ first y)
    (chosen : ℕ → X) (chosen_is : (v : ℕ) → v < V → Is (chosen v) × (first (chosen v) ≡ v)) (l : List ℕ) (r : ℕ)
    (r_below : r < V)
    (two three : X) (is_two : Is two) (is_three : Is three) (two_at : first two ≡ r) (three_at : first three ≡ r)
    (two_other : number two ≢ number (chosen r)) (three_other : number three ≢ number (chosen r))
    (apart : number two ≢ number three) where
  -- the third counts as a vertex of its own
  abbrev moved : X → ℕ
  moved x = cond (eqb (number x) (number three)) V (first x)

  moved_yes : (x : X) → number x ≡ number three → moved x ≡ V
  moved_yes x e = cond-true {A = ℕ} (eqb (number x) (number three)) V (first x) (eq-eqb (number x) (number three) e)

  moved_no : (x : X) → number x ≢ number three → moved x ≡ first x
  moved_no x n = cond-false {A = ℕ} (eqb (number x) (number three)) V (first x) (ne_eqb (number x) (number three) n)

  moved_tells : (x y : X) → Is x → Is y → number x ≡ number y → moved x ≡ moved y
  moved_tells x y i j e = elim (cases_eq (number x) (number three)) [
    | inl h ↦ moved_yes x h ∙ sym (moved_yes y (sym e ∙ h))
    | inr h ↦ moved_no x h ∙ tells x y i j e ∙ sym (moved_no y (λ k. h (e ∙ k)))
  ]

  abbrev chosen_more : ℕ → X
  chosen_more v = cond (eqb v V) three (chosen v)

  more_at : chosen_more V ≡ three
  more_at = cond-true {A = X} (eqb V V) three (chosen V) (eq-eqb V V refl)

  more_off : (v : ℕ) → v ≢ V → chosen_more v ≡ chosen v
  more_off v n = cond-false {A = X} (eqb v V) three (chosen v) (ne_eqb v V n)

  chosen_other : (v : ℕ) → v < V → number (chosen v) ≢ number three
  chosen_other v h e =
      let c = chosen_is v h in
      let at : v ≡ r = sym c.1 ∙ tells (chosen v) three c.0 is_three e ∙ three_at in
      three_other (sym e ∙ ap (λ v. number (chosen v)) at)

  more_is : (v : ℕ) → v < suc V → Is (chosen_more v) × (moved (chosen_more v) ≡ v)
  more_is v h = elim (cases_eq v V) [
    | inl e ↦ subst (λ v. Is (chosen_more v) × (moved (chosen_more v) ≡ v)) (sym e)
        (subst (λ x. Is x × (moved x ≡ V)) (sym more_at) (is_three, moved_yes three refl))
    | inr n ↦
        let c = chosen_is v (omega arith) in
        subst (λ x. Is x × (moved x ≡ v)) (sym (more_off v n))
        (c.0, moved_no (chosen v) (chosen_other v (omega arith)) ∙ c.1)
  ]

  pub crowd_more : ((v : ℕ) → v < V → v ≢ r → In l v ⊎ Second Is first number V n below tells chosen chosen_is l v) →
      V + V + 1 ≤ n + length l
  crowd_more each =
      let k : suc V + suc V ≤ n + length (V ∷ l) = crowd Is moved number (suc V) n below moved_tells chosen_more more_is
      (V ∷ l) (λ v h. elim (cases_eq v V) [
        | inl e ↦ inl (inl e)
        | inr nv ↦ elim (cases_eq v r) [
          | inl e ↦ inr (record {
            place = two;
            is = is_two;
            at_v = moved_no two apart ∙ two_at ∙ sym e;
            other = subst (λ x. number two ≢ number x) (sym (more_off v nv))
                (subst (λ v. number two ≢ number (chosen v)) (sym e) two_other);
          })
          | inr nr ↦ elim (each v (omega arith) nr) [
            | inl i ↦ inl (inr i)
            | inr s ↦ inr (record {
              place = s.place;
              is = s.is;
              at_v = moved_no s.place (λ e. nr (sym s.at_v ∙ tells s.place three s.is is_three e ∙ three_at)) ∙ s.at_v;
              other = subst (λ x. number s.place ≢ number x) (sym (more_off v nv)) s.other;
            })
          ]
        ]
      ]) in
      omega arith

-- Three different cut edges at v make three copies of v.
module _ {Side : ℕ → ℕ → ℕ → Type 0} (sides : IsSides Side) {X : Type 0} {Is : X → Type 0} {face first second : X → ℕ}
    (darts : IsDarts Side Is face first second)
    (uncut : List (ℕ × ℕ)) (are : AreEdges Side uncut) (n : ℕ)
    (copies : Numbers Is (SameCorner Side face first uncut) n) (v : ℕ) (fan : IsOneFan Side v) where
  -- a corner at v with its number
  pub record HasNumber (f k : ℕ) : Type 0 where
    pub place : X
    pub is : Is place
    pub of : face place ≡ f
    pub at_v : first place ≡ v
    pub number : copies.number place ≡ k

  same_copy : {f g k : ℕ} → HasNumber f k → HasNumber g k → Copy Side uncut v f g
  same_copy {f} {g} a b =
      subst (λ f. Copy Side uncut v f g) a.of
      (subst (λ g. Copy Side uncut v (face a.place) g) b.of
      (subst (λ v. Copy Side uncut v (face a.place) (face b.place)) a.at_v
      (copies.tells a.place b.place a.is b.is (a.number ∙ sym b.number)).1))

  -- the two faces of a cut edge, with different numbers, where there is another cut edge
  record Halves (w : ℕ) : Type 0 where
    f : ℕ
    g : ℕ
    j : ℕ
    k : ℕ
    one : CutSide Side uncut f v w
    two : CutSide Side uncut g v w
    at_one : HasNumber f j
    at_two : HasNumber g k
    differ : j ≢ k

  halves : {f g w y : ℕ} → CutSide Side uncut f v w → CutSide Side uncut g v y → w ≢ y → Halves w
  halves {f} {g} {w} {y} r s ne =
      let other = sides.other_face r.0 in
      let a = darts.of_corner f v w r.0 in
      let b = darts.of_corner other.0 v w other.1 in
      let at_a : HasNumber f (copies.number a.0) =
      record { place = a.0; is = a.1; of = a.2; at_v = a.3; number = refl } in
      let at_b : HasNumber other.0 (copies.number b.0) =
      record { place = b.0; is = b.1; of = b.2; at_v = b.3; number = refl } in
      record {
        f = f;
        g = other.0;
        j = copies.number a.0;
        k = copies.number b.0;
        one = r;
        two = (other.1, r.1);
        at_one = at_a;
        at_two = at_b;
        differ = λ e. ne (sym
            (no_other sides darts v fan uncut are r (other.1, r.1) other.2
            (same_copy at_a (subst (λ k. HasNumber other.0 k) (sym e) at_b)) g y s));
      }

  -- a third number
  pub record Third (j k : ℕ) : Type 0 where
    pub face_of : ℕ
    pub number : ℕ
    pub has : HasNumber face_of number
    pub not_one : number ≢ j
    pub not_two : number ≢ k

  -- a cut edge has a face with the first number, or one with a third
  at_first : {w : ℕ} (j k : ℕ) → Halves w → Third j k ⊎ ((g : ℕ) × CutSide Side uncut g v w × HasNumber g j)
  at_first {w} j k h = elim (cases_eq h.j j) [
    | inl e ↦ inr (h.f, h.one, subst (λ i. HasNumber h.f i) e h.at_one)
    | inr a ↦ elim (cases_eq h.j k) [
      | inr b ↦ inl (record { face_of = h.f; number = h.j; has = h.at_one; not_one = a; not_two = b })
      | inl b ↦ elim (cases_eq h.k j) [
        | inl e ↦ inr (h.g, h.two, subst (λ i. HasNumber h.g i) e h.at_two)
        | inr c ↦ inl (record {
          face_of = h.g;
          number = h.k;
          has = h.at_two;
          not_one = c;
          not_two =
              λ e. h.differ (b ∙ sym e);
        })
      ]
    ]
  ]

  pub record ThreeCopies : Type 0 where
    pub f : ℕ
    pub g : ℕ
    pub h : ℕ
    pub i : ℕ
    pub j : ℕ
    pub k : ℕ
    pub one : HasNumber f i
    pub two : HasNumber g j
    pub three : HasNumber h k
    pub one_two : i ≢ j
    pub one_three : i ≢ k
    pub two_three : j ≢ k

  pub three_copies : {f g h w y z : ℕ} → CutSide Side uncut f v w → CutSide Side uncut g v y →
      CutSide Side uncut h v z → w ≢ y → w ≢ z → y ≢ z → ThreeCopies
  three_copies r s t wy wz yz =
      let a = halves r s wy in
      let b = halves s r (λ e. wy (sym e)) in
      let c = halves t r (λ e. wz (sym e)) in
      let done : Third a.j a.k → ThreeCopies = λ d. record {
        f = a.f;
        g = a.g;
        h = d.face_of;
        i = a.j;
        j = a.k;
        k = d.number;
        one = a.at_one;
        two = a.at_two;
        three = d.has;
        one_two = a.differ;
        one_three = λ e. d.not_one (sym e);
        two_three = λ e. d.not_two (sym e);
      } in
      elim (at_first a.j a.k b) [
        | inl d ↦ done d
        | inr m ↦ elim (at_first a.j a.k c) [
          | inl d ↦ done d
          | inr o ↦ absurd (elim
              ((always_paired sides uncut are).no_third a.one m.1 o.1 (same_copy a.at_one m.2) (same_copy a.at_one o.2)) [
                | inl e ↦ wy e.1
                | inr p ↦ elim p [ inl e ↦ wz e.1 | inr e ↦ yz e.1 ]
              ])
        ]
      ]
