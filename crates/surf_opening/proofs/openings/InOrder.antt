-- Each opening can have its copies in order: by vertex, and then by the least face that has them.
use Rattle.surf_surfaces.proofs.Common.{Contains, AllPairs, cases_lt, cases_order, cases_Bool, or_cases, or_left, or_right, and_parts, and_from, lt-ltb, ltb-true, get_or_default, Contains-get_or, Mesh, face_count, face_at, IsSurface, any_below, least_below, any_below-found, any_below-from, least_below-found}
use Rattle.std.proofs.Common.{◌≡◌, ◌≢◌, ℕ, ◌<◌, ◌≤◌, ◌⊎◌, inl, inr, sym, refl, subst, ap, ◌∙◌, Bool, true, false, ◌&&◌, ◌||◌, eqb, ltb, List, [], length, get_or, arith, eqb-true, eq-eqb}
use Rattle.surf_opening.specs.ChosenCut.{AreInOrder}
use Rattle.surf_opening.specs.Numbers.{Numbers}
use Rattle.surf_opening.specs.Opening.{corner_of}
use Rattle.surf_opening.proofs.sides.SideWords.{IsOpenedAlong, SameCorner}
use Rattle.surf_opening.specs.Side.{Side, IsPlace}
use Rattle.surf_opening.specs.Uncut.{IsDualTree, IsTrimmed}
use Rattle.surf_opening.proofs.counts.Count.{trimmed_count}
use Rattle.surf_opening.proofs.openings.Exists.{rows, origins, copy_is, origin_is, row_is, row_length, opened_table, table_length, pick}
use Rattle.surf_opening.proofs.sides.MeshSides.{is_darts, face_is}
use Rattle.surf_opening.proofs.openings.OpeningLaw.{surface_sides, tree_length}
use Rattle.surf_opening.proofs.counts.Places.{places_counted}
use Rattle.surf_opening.proofs.counts.Ranked.{least_below-least, rank, rank_below, rank_one, rank_onto, rank_tells}

abbrev Copies : Mesh → List (ℕ × ℕ) → ℕ → Type 0
Copies mesh uncut n = Numbers (IsPlace mesh) (SameCorner (Side mesh) (λ x. x.0) (corner_of mesh.faces) uncut) n

module _ {mesh : Mesh} (surface : IsSurface mesh) (uncut : List (ℕ × ℕ)) (n : ℕ) (copies : Copies mesh uncut n) where
  -- whether a face has a copy
  abbrev pub has : ℕ → ℕ → Bool
  has f c = any_below (length (face_at mesh f)) (λ i. eqb (copies.number (f, i)) c)

  abbrev pub least : ℕ → ℕ
  least c = least_below (face_count mesh) (λ f. has f c)

  -- its vertex
  abbrev vertex : ℕ → ℕ
  vertex c = pick uncut n copies c (cases_lt c n)

  has_place : (f c : ℕ) → has f c ≡ true → (i : ℕ) × (i < length (face_at mesh f)) × (copies.number (f, i) ≡ c)
  has_place f c h = let i = any_below-found (length (face_at mesh f)) (λ i. eqb (copies.number (f, i)) c) h in
      (i.0, i.1, eqb-true (copies.number (f, i.0)) c i.2)

  place_has : (x : ℕ × ℕ) (c : ℕ) → IsPlace mesh x → copies.number x ≡ c → has x.0 c ≡ true
  place_has x c h e = any_below-from (length (face_at mesh x.0)) (λ i. eqb (copies.number (x.0, i)) c) x.1 h.1
      (eq-eqb (copies.number x) c e)

  least_has : (c : ℕ) → c < n → (least c < face_count mesh) × (has (least c) c ≡ true)
  least_has c h = let x = copies.onto c h in
      least_below-found (face_count mesh) (λ f. has f c) x.0.0 x.1.0 (place_has x.0 c x.1 x.2)

  vertex_is : (x : ℕ × ℕ) (c : ℕ) → IsPlace mesh x → copies.number x ≡ c → vertex c ≡ corner_of mesh.faces x
  vertex_is x c h e = subst (λ c. vertex c ≡ corner_of mesh.faces x) e (at_number x h)
    where
      at_number : (x : ℕ × ℕ) → IsPlace mesh x → vertex (copies.number x) ≡ corner_of mesh.faces x
      at_number x h = pick_at x (copies.number x) (cases_lt (copies.number x) n) h refl
        where
          pick_at : (x : ℕ × ℕ) (k : ℕ) (c : (k < n) ⊎ (n ≤ k)) → IsPlace mesh x → copies.number x ≡ k →
              pick uncut n copies k c ≡ corner_of mesh.faces x
          pick_at x k (inl l) is e = let y = copies.onto k l in (copies.tells y.0 x y.1 is (y.2 ∙ sym e)).0
          pick_at x k (inr l) is e = let g : copies.number x < n = copies.below x is in absurd (omega arith)

  -- by vertex, and then by the least face
  abbrev before : ℕ → ℕ → Bool
  before c d = ltb (vertex c) (vertex d) || (eqb (vertex c) (vertex d) && ltb (least c) (least d))

  record IsBefore (c d : ℕ) : Type 0 where
    is : (vertex c < vertex d) ⊎ ((vertex c ≡ vertex d) × (least c < least d))

  before_is : (c d : ℕ) → before c d ≡ true → IsBefore c d
  before_is c d b = elim (or_cases (ltb (vertex c) (vertex d)) (eqb (vertex c) (vertex d) && ltb (least c) (least d)) b) [
    | inl l ↦ record { is = inl (ltb-true (vertex c) (vertex d) l) }
    | inr s ↦
        let parts = and_parts (eqb (vertex c) (vertex d)) (ltb (least c) (least d)) s in
        record { is = inr (eqb-true (vertex c) (vertex d) parts.0, ltb-true (least c) (least d) parts.1) }
  ]

  is_before : (c d : ℕ) → IsBefore c d → before c d ≡ true
  is_before c d b = elim b.is [
    | inl l ↦ or_left (ltb (vertex c) (vertex d)) (eqb (vertex c) (vertex d) && ltb (least c) (least d))
        (lt-ltb (vertex c) (vertex d) l)
    | inr s ↦ or_right (ltb (vertex c) (vertex d)) (eqb (vertex c) (vertex d) && ltb (least c) (least d))
        (and_from (eqb (vertex c) (vertex d)) (ltb (least c) (least d)) (eq-eqb (vertex c) (vertex d) s.0)
        (lt-ltb (least c) (least d) s.1))
  ]

  never : (c : ℕ) → before c c ≡ false
  never c = elim (cases_Bool (before c c)) [
    | inr e ↦ e
    | inl e ↦ absurd (elim (before_is c c e).is [ inl l ↦ apart (vertex c) l | inr s ↦ apart (least c) s.1 ])
  ]
    where
      apart : (m : ℕ) → m < m → ⊥
      apart m l = omega arith

  onward : (c d e : ℕ) → before c d ≡ true → before d e ≡ true → before c e ≡ true
  onward c d e a b = is_before c e
      (record {
        is = both (vertex c) (vertex d) (vertex e) (least c) (least d) (least e) (before_is c d a).is
            (before_is d e b).is;
      })
    where
      both : (u v w f g h : ℕ) → (u < v) ⊎ ((u ≡ v) × (f < g)) → (v < w) ⊎ ((v ≡ w) × (g < h)) →
          (u < w) ⊎ ((u ≡ w) × (f < h))
      both u v w f g h (inl a) (inl b) = inl (omega arith)
      both u v w f g h (inl a) (inr b) = let e : v ≡ w = b.0 in inl (omega arith)
      both u v w f g h (inr a) (inl b) = let e : u ≡ v = a.0 in inl (omega arith)
      both u v w f g h (inr a) (inr b) =
          let e : u ≡ v = a.0 in
          let e' : v ≡ w = b.0 in
          let l : f < g = a.1 in
          let l' : g < h = b.1 in
          inr (omega arith, omega arith)

  -- no two copies of one vertex have one least face
  one_copy : (c d : ℕ) → c < n → d < n → vertex c ≡ vertex d → least c ≡ least d → c ≡ d
  one_copy c d h g same first =
      let a = least_has c h in
      let b = least_has d g in
      let i = has_place (least c) c a.1 in
      let j = has_place (least c) d (subst (λ f. has f d ≡ true) (sym first) b.1) in
      let face = face_is mesh surface.is_mesh (least c) a.0 in
      let e : get_or (face_at mesh (least c)) i.0 0 ≡ get_or (face_at mesh (least c)) j.0 0 =
      sym (vertex_is (least c, i.0) c (a.0, i.1) i.2) ∙ same ∙ vertex_is (least c, j.0) d (a.0, j.1) j.2 in
      let k : i.0 ≡ j.0 = one_place (face_at mesh (least c)) face.distinct i.0 j.0 i.1 j.1 e in
      sym i.2 ∙ ap (λ i. copies.number (least c, i)) k ∙ j.2
    where
      one_place : (face : List ℕ) → AllPairs (λ u v. u ≢ v) face → (i j : ℕ) → i < length face → j < length face →
          get_or face i 0 ≡ get_or face j 0 → i ≡ j
      one_place face distinct i j a b e = elim (cases_order i j) [
        | inl same ↦ same
        | inr o ↦ elim o [
          | inl l ↦ absurd (distinct i j 0 l b e)
          | inr l ↦ absurd (distinct j i 0 l a (sym e))
        ]
      ]

  order : (c d : ℕ) → c < n → d < n → c ≢ d → (before c d ≡ true) ⊎ (before d c ≡ true)
  order c d h g differ = elim (cases_order (vertex c) (vertex d)) [
    | inl same ↦ elim (cases_order (least c) (least d)) [
      | inl first ↦ absurd (differ (one_copy c d h g same first))
      | inr o ↦ elim o [
        | inl l ↦ inl (is_before c d (record { is = inr (same, l) }))
        | inr l ↦ inr (is_before d c (record { is = inr (sym same, l) }))
      ]
    ]
    | inr o ↦ elim o [
      | inl l ↦ inl (is_before c d (record { is = inl l }))
      | inr l ↦ inr (is_before d c (record { is = inl l }))
    ]
  ]

  abbrev ranked : ℕ → ℕ
  ranked = rank n before never onward order

  -- the copies by their ranks
  pub in_order : Copies mesh uncut n
  in_order = record {
    number = λ x. ranked (copies.number x);
    below = λ x h. rank_below n before never onward order (copies.number x) (copies.below x h);
    onto = λ k h.
        let c = rank_onto n before never onward order k h in
        let x = copies.onto c.0 c.1 in
        (x.0, x.1, ap ranked x.2 ∙ c.2);
    tells = λ x y h g e. copies.tells x y h g
        (rank_one n before never onward order (copies.number x) (copies.number y) (copies.below x h)
        (copies.below y g) e);
    agrees = λ x y h g s. ap ranked (copies.agrees x y h g s);
  }

  number_is : (x : ℕ × ℕ) → in_order.number x ≡ ranked (copies.number x)
  unfolding in_order
  number_is x = refl

  abbrev Rows : List (List ℕ)
  Rows = rows uncut n in_order

  abbrev Origins : List ℕ
  Origins = origins uncut n in_order

  size : length Origins ≡ n
  size = table_length n (λ k. pick uncut n in_order k (cases_lt k n))

  row_size : (f : ℕ) → f < face_count mesh → length (get_or Rows f []) ≡ length (face_at mesh f)
  row_size f h = ap length (row_is uncut n in_order f h) ∙ row_length uncut n in_order f

  -- a face's copies are those at its places
  row_has : (f i c : ℕ) → f < face_count mesh → i < length (face_at mesh f) → ranked (copies.number (f, i)) ≡ c →
      Contains (get_or Rows f []) c
  row_has f i c h l e =
      subst (λ c. Contains (get_or Rows f []) c) (copy_is uncut n in_order (f, i) (h, l) ∙ number_is (f, i) ∙ e)
      (Contains-get_or (get_or Rows f []) i 0 (subst (λ m. i < m) (sym (row_size f h)) l))

  in_row : (f d b : ℕ) → f < face_count mesh → b < n → ranked b ≡ d → Contains (get_or Rows f []) d → has f b ≡ true
  in_row f d b h l e c =
      let i = c.0 in
      let i_in : i < length (face_at mesh f) = subst (λ m. i < m) (row_size f h) c.1 in
      let is : ranked (copies.number (f, i)) ≡ d =
      sym (number_is (f, i)) ∙ sym (copy_is uncut n in_order (f, i) (h, i_in)) ∙ get_or_default
      (get_or Rows f []) i 0 d c.1 ∙ c.2 in
      place_has (f, i) b (h, i_in)
      (rank_one n before never onward order (copies.number (f, i)) b (copies.below (f, i) (h, i_in)) l (is ∙ sym e))

  pub are_in_order : AreInOrder mesh Origins Rows
  are_in_order c d less d_in =
      let d_below : d < n = subst (λ m. d < m) size d_in in
      let x = in_order.onto c (omega arith) in
      let y = in_order.onto d d_below in
      let a = copies.number x.0 in
      let b = copies.number y.0 in
      let a_in : a < n = copies.below x.0 x.1 in
      let b_in : b < n = copies.below y.0 y.1 in
      let a_is : ranked a ≡ c = sym (number_is x.0) ∙ x.2 in
      let b_is : ranked b ≡ d = sym (number_is y.0) ∙ y.2 in
      let up : ranked a < ranked b = subst (λ k. k < ranked b) (sym a_is) (subst (λ k. c < k) (sym b_is) less) in
      let at_c : get_or Origins c 0 ≡ vertex a =
      ap (λ k. get_or Origins k 0) (sym x.2) ∙ origin_is uncut n in_order x.0 x.1 ∙ sym
      (vertex_is x.0 a x.1 refl) in
      let at_d : get_or Origins d 0 ≡ vertex b =
      ap (λ k. get_or Origins k 0) (sym y.2) ∙ origin_is uncut n in_order y.0 y.1 ∙ sym
      (vertex_is y.0 b y.1 refl) in
      elim (before_is a b (rank_tells n before never onward order a b a_in b_in up)).is [
        | inl l ↦ inl (subst (λ m. m < get_or Origins d 0) (sym at_c) (subst (λ m. vertex a < m) (sym at_d) l))
        | inr s ↦
            let first = least_has a a_in in
            let i = has_place (least a) a first.1 in
            inr (
              at_c ∙ s.0 ∙ sym at_d,
              (
                least a,
                first.0,
                row_has (least a) i.0 c first.0 i.1 (ap ranked i.2 ∙ a_is),
                λ g h has_d.
                    let least_b : least b ≤ g =
                    least_below-least (face_count mesh) (λ f. has f b) g h (in_row g d b h b_in b_is has_d) in
                    below (least a) (least b) g s.1 least_b,
              ),
            )
      ]
    where
      below : (f g h : ℕ) → f < g → g ≤ h → f < h
      below f g h l m = omega arith

-- so each trimmed cut has an opening with its copies in order
pub opening_in_order : {mesh : Mesh} {tree uncut : List (ℕ × ℕ)} → IsSurface mesh → IsDualTree (Side mesh) tree →
    IsTrimmed (Side mesh) tree uncut →
    (origins : List ℕ) × (faces : List (List ℕ)) × IsOpenedAlong mesh uncut origins faces
    × AreInOrder mesh origins faces
opening_in_order {mesh} {tree} {uncut} surface dual trimmed =
    let count = trimmed_count (surface_sides surface) (is_darts mesh surface.is_mesh) (places_counted mesh) dual
    (face_count mesh) (tree_length surface dual.faces tree dual.grows dual.every_face) trimmed in
    let sorted = in_order surface uncut count.copies count.are_copies in
    (_, _, opened_table uncut count.copies sorted, are_in_order surface uncut count.copies count.are_copies)
