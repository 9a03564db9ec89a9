-- At each vertex with one fan there are as many copies as cut edges, and one where no edge is cut; for any set of cut
-- edges.
use Rattle.surf_surfaces.proofs.Common.{◌≡◌, ◌≢◌, ℕ, zero, suc, ◌+◌, ◌-◌, ◌<◌, max, ◌⊎◌, inl, inr, sym, refl, subst, ap, ◌∙◌, cond, ltb, List, [], ◌∷◌, arith, cases_eq, cases_lt, nat_tests, Joined, here, over}
use Rattle.surf_opening.specs.Rim.{along}
use Rattle.surf_opening.proofs.gluing.RimWords.{IsCopying, IsPaired}
use Rattle.surf_opening.specs.Numbers.{Numbers}
use Rattle.surf_opening.specs.Uncut.{Uncut, Copy, CutSide, CutEdge, AreEdges}
use Rattle.surf_opening.proofs.sides.SideWords.{IsSides, IsDarts, IsOneFan}
use Rattle.surf_opening.proofs.gluing.Rims.{among_cases, among_first, paired_glued}
use Rattle.surf_opening.proofs.gluing.Gluing.{copying, glues}
use Rattle.surf_opening.proofs.counts.Counting.{numbers_of, numbers_merged}
use Rattle.surf_opening.proofs.gluing.Tree.{paired_apart}

-- one thing less
abbrev pub lower : ℕ → ℕ → ℕ
lower j k = cond (ltb k j) k (k - 1)

pub lower_below : (n j k : ℕ) → j < suc n → k < suc n → k ≢ j → lower j k < n
lower_below n j k a b ne = grind (arith, nat_tests)

pub lower_tells : (j k l : ℕ) → k ≢ j → l ≢ j → lower j k ≡ lower j l → k ≡ l
lower_tells j k l a b e = grind (arith, nat_tests)

lower_onto : (n j t : ℕ) → j < suc n → t < n → (k : ℕ) × (k < suc n) × (k ≢ j) × (lower j k ≡ t)
lower_onto n j t h g = elim (cases_lt t j) [
  | inl a ↦ (t, omega arith, omega arith, grind (arith, nat_tests))
  | inr a ↦ (t + 1, omega arith, omega arith, grind (arith, nat_tests))
]

pub numbers_without : {Is Is' : ℕ → Type 0} {n : ℕ} (a : ℕ) → Is a → ((x : ℕ) → Is' x → Is x × (x ≢ a)) →
    ((x : ℕ) → Is x → x ≢ a → Is' x) →
    Numbers Is (λ (x : ℕ) (y : ℕ). x ≡ y) (suc n) → Numbers Is' (λ (x : ℕ) (y : ℕ). x ≡ y) n
numbers_without {Is} {Is'} {n} a is_a from to s =
    let j = s.number a in
    let differ = λ (x : ℕ) (h : Is' x) (e : s.number x ≡ s.number a). (from x h).1 (s.tells x a (from x h).0 is_a e) in
    record {
      number = λ x. lower j (s.number x);
      below = λ x h. lower_below n j (s.number x) (s.below a is_a) (s.below x (from x h).0) (differ x h);
      onto = λ t h.
          let k = lower_onto n j t (s.below a is_a) h in
          let x = s.onto k.0 k.1 in
          (x.0, to x.0 x.1 (λ e. k.2 (sym x.2 ∙ ap s.number e)), ap (lower j) x.2 ∙ k.3);
      tells = λ x y h g e. s.tells x y (from x h).0 (from y g).0
          (lower_tells j (s.number x) (s.number y) (differ x h) (differ y g) e);
      agrees = λ x y h g e. ap (λ x. lower j (s.number x)) e;
    }

pub uncut_cases : (us : List (ℕ × ℕ)) (v w : ℕ) → Uncut us v w ⊎ (Uncut us v w → ⊥)
uncut_cases [] v w = inr (λ u. u)
uncut_cases (s ∷ rest) v w = elim (among_cases s.0 s.1 v w) [
  | inl m ↦ inl (inl m)
  | inr n ↦ elim (uncut_cases rest v w) [
    | inl u ↦ inl (inr u)
    | inr k ↦ inr (λ u. elim u [ inl m ↦ n m | inr l ↦ k l ])
  ]
]

module _ {Side : ℕ → ℕ → ℕ → Type 0} (sides : IsSides Side) where
  -- at each copy there are no cut sides or two, whatever edges are cut
  pub always_paired : (uncut : List (ℕ × ℕ)) → AreEdges Side uncut → IsPaired (CutSide Side uncut) (Copy Side uncut)
  always_paired [] e = paired_apart sides
  always_paired (s ∷ rest) e =
      let other = sides.other_face e.0.1 in
      paired_glued (always_paired rest e.2) (copying sides rest) (copying sides (s ∷ rest))
      (glues sides rest e.0.1 other.1 other.2 e.1)

  -- where no edge at v is cut there is one copy
  all_uncut : (uncut : List (ℕ × ℕ)) (v : ℕ) → IsOneFan Side v → ((w : ℕ) → CutEdge Side uncut v w → ⊥) →
      (f g w y : ℕ) → Side f v w → Side g v y → Copy Side uncut v f g
  all_uncut uncut v fan none f g w y s t = chain (fan f g w y s t)
    where
      chain : {f g : ℕ} → Joined (λ f g. (w : ℕ) × Side f v w × Side g v w) f g → Copy Side uncut v f g
      chain here = here
      chain (over {a = f} r rest) =
          over (r.0, r.1, r.2, elim (uncut_cases uncut v r.0) [ inl u ↦ u | inr n ↦ absurd (none r.0 (f, (r.1, n))) ])
          (chain rest)

  module _ {X : Type 0} {Is : X → Type 0} {face first second : X → ℕ} (darts : IsDarts Side Is face first second)
      (v : ℕ) where
    abbrev pub AtV : X → Type 0
    AtV x = Is x × (first x ≡ v)

    abbrev pub SameCopy : List (ℕ × ℕ) → X → X → Type 0
    SameCopy uncut x y = Copy Side uncut v (face x) (face y)

    -- the side of a corner, seen from v
    corner_side : (x : X) → AtV x → Side (face x) v (second x)
    corner_side x h = subst (λ v. Side (face x) v (second x)) h.1 (darts.side x h.0)

    -- two sides of one edge at one copy of v: it is the only copy, and they are the only cut sides
    module _ (fan : IsOneFan Side v) (uncut : List (ℕ × ℕ)) (are : AreEdges Side uncut) {a b q : ℕ}
        (at_a : CutSide Side uncut a v q) (at_b : CutSide Side uncut b v q) (differ : a ≢ b)
        (closed : Copy Side uncut v a b) where
      eqv : IsCopying (Copy Side uncut)
      eqv = copying sides uncut

      paired : IsPaired (CutSide Side uncut) (Copy Side uncut)
      paired = always_paired uncut are

      only_two : {g y : ℕ} → CutSide Side uncut g v y → Copy Side uncut v a g → y ≡ q
      only_two r c = elim (paired.no_third at_a at_b r closed c) [
        | inl m ↦ absurd (differ m.0)
        | inr o ↦ elim o [ inl m ↦ sym m.1 | inr m ↦ sym m.1 ]
      ]

      holds : {g : ℕ} → Side g v q → Copy Side uncut v a g
      holds {g} s = elim (sides.two_faces at_a.0 at_b.0 s) [
        | inl e ↦ absurd (differ e)
        | inr o ↦ elim o [
          | inl e ↦ subst (λ g. Copy Side uncut v a g) e here
          | inr e ↦ subst (λ g. Copy Side uncut v a g) e closed
        ]
      ]

      spread : {f g : ℕ} → Joined (λ f g. (w : ℕ) × Side f v w × Side g v w) f g → Copy Side uncut v a f →
          Copy Side uncut v a g
      spread here c = c
      spread (over {a = f} {b = h} r rest) c = spread rest (elim (uncut_cases uncut v r.0) [
        | inl u ↦ eqv.onward c (over (r.0, r.1, r.2, u) here)
        | inr n ↦ holds (subst (λ y. Side h v y) (only_two (r.1, n) c) r.2)
      ])

      pub no_other : (g y : ℕ) → CutSide Side uncut g v y → y ≡ q
      no_other g y r = only_two r (spread (fan a g q y at_a.0 r.0) here)

    pub copies_at : IsOneFan Side v → (c n : ℕ) (uncut : List (ℕ × ℕ)) → AreEdges Side uncut → (x : X) → AtV x →
        Numbers (CutEdge Side uncut v) (λ (w : ℕ) (y : ℕ). w ≡ y) c → Numbers AtV (SameCopy uncut) n → n ≡ max 1 c
    copies_at fan zero n uncut are x is cuts copies =
        let one : copies.number x < n = copies.below x is in
        elim (cases_lt 1 n) [
          | inr h ↦ omega arith
          | inl h ↦
              let a = copies.onto 0 (omega arith) in
              let b = copies.onto 1 (omega arith) in
              let none = λ (w : ℕ) (k : CutEdge Side uncut v w). no_less (cuts.number w) (cuts.below w k) in
              let e = copies.agrees a.0 b.0 a.1 b.1
              (all_uncut uncut v fan none (face a.0) (face b.0) (second a.0) (second b.0) (corner_side a.0 a.1)
              (corner_side b.0 b.1)) in
              absurd (apart 0 1 (sym a.2 ∙ e ∙ b.2) (omega arith))
        ]
      where
        apart : (m n : ℕ) → m ≡ n → m < n → ⊥
        apart m n e h = omega arith

        no_less : (m : ℕ) → m < 0 → ⊥
        no_less m h = omega arith
    copies_at fan (suc c) n uncut are x is cuts copies =
        let w = cuts.onto 0 (omega arith) in
        let q = w.0 in
        let at_a = w.1.1 in
        let other = sides.other_face at_a.0 in
        let at_b : CutSide Side uncut other.0 v q = (other.1, at_a.1) in
        let glue = glues sides uncut at_a.0 other.1 other.2 at_a.1 in
        let are' : AreEdges Side ((v, q) ∷ uncut) = ((w.1.0, at_a.0), at_a.1, are) in
        let cuts' : Numbers (CutEdge Side ((v, q) ∷ uncut) v) (λ (w : ℕ) (y : ℕ). w ≡ y) c = numbers_without q w.1
        (λ y k. ((k.0, (k.1.0, λ u. k.1.1 (inr u))), λ e. k.1.1 (inl (along refl e))))
        (λ y k ne. (k.0, (k.1.0, λ u. elim u [ inl m ↦ ne (among_first m) | inr l ↦ k.1.1 l ]))) cuts in
        let ca = darts.of_corner w.1.0 v q at_a.0 in
        let cb = darts.of_corner other.0 v q other.1 in
        let is_a : AtV ca.0 = (ca.1, ca.3) in
        let is_b : AtV cb.0 = (cb.1, cb.3) in
        let after = copying sides ((v, q) ∷ uncut) in
        let eqv = copying sides uncut in
        let meet : Copy Side ((v, q) ∷ uncut) v (face ca.0) (face cb.0) =
        subst (λ f. Copy Side ((v, q) ∷ uncut) v f (face cb.0)) (sym ca.2)
        (subst (λ g. Copy Side ((v, q) ∷ uncut) v w.1.0 g) (sym cb.2) glue.at_first) in
        elim (cases_eq (copies.number ca.0) (copies.number cb.0)) [
          | inl e ↦
              let closed : Copy Side uncut v w.1.0 other.0 =
              subst (λ f. Copy Side uncut v f other.0) ca.2
              (subst (λ g. Copy Side uncut v (face ca.0) g) cb.2 (copies.tells ca.0 cb.0 is_a is_b e)) in
              let copies' : Numbers AtV (SameCopy ((v, q) ∷ uncut)) n =
              numbers_of {n = n} (λ x y i j k. glue.same k) (λ x y i j k. elim (glue.split k) [
                | inl l ↦ l
                | inr l ↦ elim l.sides [
                  | inl m ↦ eqv.onward (eqv.turned m.0) (eqv.onward closed m.1)
                  | inr m ↦ eqv.onward (eqv.turned m.0) (eqv.onward (eqv.turned closed) m.1)
                ]
              ]) copies in
              let k : n ≡ max 1 c = copies_at fan c n ((v, q) ∷ uncut) are' x is cuts' copies' in
              elim (cases_eq c 0) [
                | inl z ↦ omega arith
                | inr nz ↦
                    let y = cuts'.onto 0 (omega arith) in
                    let r = y.1.1 in
                    absurd (r.1 (inl (along refl
                    (no_other fan uncut are at_a at_b other.2 closed y.1.0 y.0 (r.0, λ u. r.1 (inr u))))))
              ]
          | inr ne ↦
              let merged = numbers_merged ca.0 cb.0 is_a is_b (λ k. ne (copies.agrees ca.0 cb.0 is_a is_b k)) copies in
              let copies' : Numbers AtV (SameCopy ((v, q) ∷ uncut)) merged.0 = numbers_of {n = merged.0}
              (λ x y i j k. elim k [
                | inl l ↦ glue.same l
                | inr o ↦ elim o [
                  | inl m ↦ after.onward (after.turned (glue.same m.0)) (after.onward meet (glue.same m.1))
                  | inr m ↦ after.onward (after.turned (glue.same m.0))
                      (after.onward (after.turned meet) (glue.same m.1))
                ]
              ])
              (λ x y i j k. elim (glue.split k) [
                | inl l ↦ inl l
                | inr l ↦ inr (elim l.sides [
                  | inl m ↦ inl (
                    subst (λ f. Copy Side uncut v f (face x)) (sym ca.2) m.0,
                    subst (λ f. Copy Side uncut v f (face y)) (sym cb.2) m.1,
                  )
                  | inr m ↦ inr (
                    subst (λ f. Copy Side uncut v f (face x)) (sym cb.2) m.0,
                    subst (λ f. Copy Side uncut v f (face y)) (sym ca.2) m.1,
                  )
                ])
              ]) merged.2 in
              let e : n ≡ merged.0 + 1 = merged.1 in
              let k : merged.0 ≡ max 1 c = copies_at fan c merged.0 ((v, q) ∷ uncut) are' x is cuts' copies' in
              elim (cases_eq c 0) [
                | inr nz ↦ omega arith
                | inl z ↦
                    let p = (always_paired uncut are).another at_a in
                    let same : p.1 ≡ q =
                    cuts.tells p.1 q (p.0, p.2) w.1
                    (small (cuts.number p.1) (cuts.number q) (suc c) (cuts.below p.1 (p.0, p.2)) (cuts.below q w.1)
                    (omega arith)) in
                    absurd (ne (copies.agrees ca.0 cb.0 is_a is_b
                    (elim (sides.two_faces at_a.0 other.1 (subst (λ y. Side p.0 v y) same p.2.0)) [
                      | inl h ↦ absurd (other.2 h)
                      | inr o ↦ elim o [
                        | inl h ↦ absurd (p.4 h (sym same))
                        | inr h ↦ subst (λ f. Copy Side uncut v f (face cb.0)) (sym ca.2)
                            (subst (λ g. Copy Side uncut v w.1.0 g) (sym h ∙ sym cb.2) p.3)
                      ]
                    ])))
              ]
        ]
      where
        small : (m n k : ℕ) → m < k → n < k → k ≡ 1 → m ≡ n
        small m n k a b c = omega arith
