-- Laws of sides by their places, and of mates.
use Rattle.surf_surfaces.proofs.Common.{◌≡◌, ◌≢◌, ℕ, zero, suc, ◌+◌, ◌-◌, ◌<◌, ◌≤◌, true, false, ◌||◌, eqb, List, [], ◌∷◌, ◌++◌, ◌⊎◌, length, get_or, refl, sym, ap, ◌∙◌, arith, inl, inr, subst, eq-eqb, ne_eqb, eqb-true, cases_eq, cases_lt, cases_order, lt-ltb, le-ltb, or_cases, or_left, or_right, length-append, get_or_append_left, get_or_push, Mesh, IsFace, steps_from, sides, pair, pair_of, pair_eq, edges, face_count, face_at, has_side, faces_of, IsSurface, place_of}
use Rattle.surf_surfaces.specs.Side.{after, before, corner, side_pair, SidesAreByPlace, SidesArePlaced, CornersHaveNeighbours, AreMates, SidesHaveMates}
use Rattle.surf_surfaces.proofs.meshes.PairLaws.{pair_eq-true, pair_eq-same, pair_same}
use Rattle.surf_surfaces.proofs.meshes.EdgeLaws.{list_any_at, list_any_from, among-edges, place_of-among}
use Rattle.surf_surfaces.proofs.meshes.FaceLaws.{pair_comm}
use Rattle.surf_surfaces.proofs.meshes.SurfaceLaws.{two_faces_of, has_side-face}
use Rattle.surf_surfaces.proofs.meshes.CountLaws.{length-sides}
use Rattle.surf_surfaces.proofs.LawProofs.{sides_differ}

-- a step of a path joins its places
step_at : (u : ℕ) (xs : List ℕ) (k : ℕ) → k < length xs → get_or (steps_from u xs) k (0, 0)
    ≡ (get_or (u ∷ xs) k 0, get_or xs k 0)
step_at u [] k h = absurd (omega arith)
step_at u (w ∷ xs) zero h = refl
step_at u (w ∷ xs) (suc k) h = step_at w xs k (omega arith)

pub sides_are_by_place : SidesAreByPlace
sides_are_by_place [] k h = absurd (omega arith)
sides_are_by_place (u ∷ rest) k h =
    let long : length (rest ++ u ∷ []) ≡ length rest + 1 = length-append rest (u ∷ []) in
    let first : get_or (u ∷ (rest ++ u ∷ [])) k 0 ≡ get_or (u ∷ rest) k 0 =
    get_or_append_left (u ∷ rest) (u ∷ []) 0 k h in
    step_at u (rest ++ u ∷ []) k (omega arith) ∙ pair_same
    (get_or (u ∷ (rest ++ u ∷ [])) k 0, get_or (rest ++ u ∷ []) k 0)
    (get_or (u ∷ rest) k 0, get_or (u ∷ rest) (after (suc (length rest)) k) 0) first second
  where
    second : get_or (rest ++ u ∷ []) k 0 ≡ get_or (u ∷ rest) (after (suc (length rest)) k) 0
    second = elim (cases_lt (k + 1) (suc (length rest))) [
      | inl lt ↦
          let next : k + 1 ≡ suc k = omega arith in
          rw (lt-ltb (k + 1) (suc (length rest)) lt, next) (get_or_append_left rest (u ∷ []) 0 k (omega arith))
      | inr ge ↦
          rw (le-ltb (k + 1) (suc (length rest)) ge) (get_or_push rest u 0 k (omega arith))
    ]

side_pair_of : (face : List ℕ) (k : ℕ) → k < length face → pair_of (get_or (sides face) k (0, 0)) ≡ side_pair face k
side_pair_of face k h = ap pair_of (sides_are_by_place face k h)

pub sides_are_placed : SidesArePlaced
sides_are_placed face p = (
  (λ has.
      let r = list_any_at (λ s. pair_eq p (pair_of s)) (sides face) (0, 0) has in
      let in' : r.0 < length face = let l = length-sides face in omega (arith, r.1, l) in (
        r.0,
        in',
        sym (side_pair_of face r.0 in') ∙ sym
            (pair_eq-true p (pair_of (get_or (sides face) r.0 (0, 0))) r.2),
      )),
  (λ h. placed h.0 h.1 h.2),
)
  where
    placed : (k : ℕ) → k < length face → side_pair face k ≡ p → has_side p face ≡ true
    placed k in' e =
        let l = length-sides face in
        list_any_from (λ s. pair_eq p (pair_of s)) (sides face) (0, 0) k (omega arith)
        (pair_eq-same p (pair_of (get_or (sides face) k (0, 0))) (sym e ∙ sym (side_pair_of face k in')))

-- equal pairs have equal ends, in one order or the other
pub pair_ends : (a b c d : ℕ) → pair a b ≡ pair c d → ((a ≡ c) × (b ≡ d)) ⊎ ((a ≡ d) × (b ≡ c))
pair_ends a b c d e = elim (cases_lt a b) [
  | inl x ↦ elim (cases_lt c d) [
    | inl y ↦ let h : (a, b) ≡ (c, d) = rw (lt-ltb a b x, lt-ltb c d y) at e in
        inl (ap (λ (p : ℕ × ℕ). p.0) h, ap (λ (p : ℕ × ℕ). p.1) h)
    | inr y ↦ let h : (a, b) ≡ (d, c) = rw (lt-ltb a b x, le-ltb c d y) at e in
        inr (ap (λ (p : ℕ × ℕ). p.0) h, ap (λ (p : ℕ × ℕ). p.1) h)
  ]
  | inr x ↦ elim (cases_lt c d) [
    | inl y ↦ let h : (b, a) ≡ (c, d) = rw (le-ltb a b x, lt-ltb c d y) at e in
        inr (ap (λ (p : ℕ × ℕ). p.1) h, ap (λ (p : ℕ × ℕ). p.0) h)
    | inr y ↦ let h : (b, a) ≡ (d, c) = rw (le-ltb a b x, le-ltb c d y) at e in
        inl (ap (λ (p : ℕ × ℕ). p.1) h, ap (λ (p : ℕ × ℕ). p.0) h)
  ]
]

pub after-below : (n k : ℕ) → k < n → after n k < n
after-below n k h = elim (cases_lt (k + 1) n) [
  | inl lt ↦ rw (lt-ltb (k + 1) n lt) lt
  | inr ge ↦ rw (le-ltb (k + 1) n ge) (omega arith)
]

pub before-below : (n k : ℕ) → k < n → before n k < n
before-below n k h =
    elim (cases_eq k 0) [ inl e ↦ rw (eq-eqb k 0 e) (omega arith) | inr e ↦ rw (ne_eqb k 0 e) (omega arith) ]

pub after-before : (n k : ℕ) → k < n → after n (before n k) ≡ k
after-before n k h = elim (cases_eq k 0) [
  | inl e ↦ let high : n ≤ n - 1 + 1 = omega arith in rw (eq-eqb k 0 e, le-ltb (n - 1 + 1) n high) (sym e)
  | inr e ↦ let low : k - 1 + 1 < n = omega arith in rw (ne_eqb k 0 e, lt-ltb (k - 1 + 1) n low) (omega arith)
]

pub before-after : (n k : ℕ) → k < n → before n (after n k) ≡ k
before-after n k h = elim (cases_lt (k + 1) n) [
  | inl lt ↦ let some : eqb (k + 1) 0 ≡ false = ne_eqb (k + 1) 0 (λ e. omega arith) in
      rw (lt-ltb (k + 1) n lt, some) (omega arith)
  | inr ge ↦ rw (le-ltb (k + 1) n ge) (omega arith)
]

-- a face has a corner at one place
pub corner_place : (n : ℕ) (face : List ℕ) → IsFace n face → (i k : ℕ) → i < length face → k < length face →
    corner face i ≡ corner face k → i ≡ k
corner_place n face h i k x y e = elim (cases_order i k) [
  | inl same ↦ same
  | inr o ↦ elim o [ inl lt ↦ absurd (h.distinct i k 0 lt y e) | inr gt ↦ absurd (h.distinct k i 0 gt x (sym e)) ]
]

pub corners_have_neighbours : CornersHaveNeighbours
corners_have_neighbours n face h k w in' = (from, λ o. elim o [ inl e ↦ to_after e | inr e ↦ to_before e ])
  where
    from : has_side (pair (corner face k) w) face ≡ true → (w ≡ corner face (after (length face) k))
        ⊎ (w ≡ corner face (before (length face) k))
    from has =
        let r = (sides_are_placed face (pair (corner face k) w)).0 has in
        let m = length face in
        elim (pair_ends (corner face r.0) (corner face (after m r.0)) (corner face k) w r.2) [
          | inl e ↦ let same : r.0 ≡ k = corner_place n face h r.0 k r.1 in' e.0 in
              inl (sym e.1 ∙ ap (λ i. corner face (after m i)) same)
          | inr e ↦
              let same : after m r.0 ≡ k = corner_place n face h (after m r.0) k (after-below m r.0 r.1) in' e.1 in
              inr (sym e.0 ∙ ap (corner face) (sym (before-after m r.0 r.1) ∙ ap (before m) same))
        ]

    to_after : w ≡ corner face (after (length face) k) → has_side (pair (corner face k) w) face ≡ true
    to_after e = (sides_are_placed face (pair (corner face k) w)).1 (k, in', ap (pair (corner face k)) (sym e))

    to_before : w ≡ corner face (before (length face) k) → has_side (pair (corner face k) w) face ≡ true
    to_before e =
        let m = length face in
        let b = before m k in
        (sides_are_placed face (pair (corner face k) w)).1 (
          b,
          before-below m k in',
          ap (λ i. pair (corner face b) (corner face i)) (after-before m k in') ∙ ap
              (λ x. pair x (corner face k)) (sym e) ∙ pair_comm w (corner face k),
        )

-- a face has an edge at one place
pub side_place : (n : ℕ) (face : List ℕ) → IsFace n face → (i k : ℕ) → i < length face → k < length face →
    side_pair face i ≡ side_pair face k → i ≡ k
side_place n face h i k x y e =
    let l = length-sides face in
    let same : pair_of (get_or (sides face) i (0, 0)) ≡ pair_of (get_or (sides face) k (0, 0)) =
    side_pair_of face i x ∙ e ∙ sym (side_pair_of face k y) in
    elim (cases_order i k) [
      | inl is ↦ is
      | inr o ↦ elim o [
        | inl lt ↦ absurd (sides_differ n face h i k (0, 0) lt (omega arith) same)
        | inr gt ↦ absurd (sides_differ n face h k i (0, 0) gt (omega arith) (sym same))
      ]
    ]

-- the other face of an edge of a face
pub record IsOtherFace (mesh : Mesh) (p : ℕ × ℕ) (f g : ℕ) : Type 0 where
  pub differs : f ≢ g
  pub has : has_side p (face_at mesh g) ≡ true
  pub only : (h : ℕ) → f ≢ h → has_side p (face_at mesh h) ≡ true → h ≡ g

pub other_face : (mesh : Mesh) → IsSurface mesh → (p : ℕ × ℕ) (f : ℕ) → f < face_count mesh →
    has_side p (face_at mesh f) ≡ true → (g : ℕ) × IsOtherFace mesh p f g
other_face mesh surface p f in' has =
    let at = place_of-among p (edges mesh) (0, 0)
    (among-edges mesh p ∙ list_any_from (has_side p) mesh.faces [] f in' has) in
    let e = place_of p (edges mesh) in
    let two = two_faces_of mesh surface e at.0 in
    let a = (faces_of mesh e).0 in
    let b = (faces_of mesh e).1 in
    let exactly : (h : ℕ) → has_side p (face_at mesh h) ≡ (eqb h a || eqb h b) =
    λ h. ap (λ q. has_side q (face_at mesh h)) (sym at.1) ∙ two.no_other h in
    let lt : a < b = two.lesser_first in
    elim (or_cases (eqb f a) (eqb f b) (sym (exactly f) ∙ has)) [
      | inl is ↦
          let at_a : f ≡ a = eqb-true f a is in (
            b,
            record {
              differs = λ same. omega arith;
              has = exactly b ∙ or_right (eqb b a) (eqb b b) (eq-eqb b b refl);
              only = λ h other has_h. elim (or_cases (eqb h a) (eqb h b) (sym (exactly h) ∙ has_h))
                  [ inl x ↦ absurd (other (at_a ∙ sym (eqb-true h a x))) | inr x ↦ eqb-true h b x ];
            },
          )
      | inr is ↦
          let at_b : f ≡ b = eqb-true f b is in (
            a,
            record {
              differs = λ same. omega arith;
              has = exactly a ∙ or_left (eqb a a) (eqb a b) (eq-eqb a a refl);
              only = λ h other has_h. elim (or_cases (eqb h a) (eqb h b) (sym (exactly h) ∙ has_h))
                  [ inl x ↦ eqb-true h a x | inr x ↦ absurd (other (at_b ∙ sym (eqb-true h b x))) ];
            },
          )
    ]

pub sides_have_mates : (mesh : Mesh) → IsSurface mesh → SidesHaveMates mesh
sides_have_mates mesh surface = record { some = some; one = one }
  where
    has_own : (f k : ℕ) → k < length (face_at mesh f) → has_side (side_pair (face_at mesh f) k) (face_at mesh f) ≡ true
    has_own f k y = (sides_are_placed (face_at mesh f) (side_pair (face_at mesh f) k)).1 (k, y, refl)

    some : (f k : ℕ) → f < face_count mesh → k < length (face_at mesh f) → (g : ℕ) × (j : ℕ) × AreMates mesh f k g j
    some f k x y =
        let p = side_pair (face_at mesh f) k in
        let other = other_face mesh surface p f x (has_own f k y) in
        let g = other.0 in
        let is = other.1 in
        let r = (sides_are_placed (face_at mesh g) p).0 is.has in (
          g,
          r.0,
          record {
            other_face = is.differs;
            is_face = has_side-face mesh p g is.has;
            is_place = r.1;
            same_edge =
                sym r.2;
          },
        )

    one : (f k g j h i : ℕ) → f < face_count mesh → k < length (face_at mesh f) → AreMates mesh f k g j →
        AreMates mesh f k h i → (g ≡ h) × (j ≡ i)
    one f k g j h i x y a b =
        let p = side_pair (face_at mesh f) k in
        let other = other_face mesh surface p f x (has_own f k y) in
        let is = other.1 in
        let first : g ≡ other.0 =
        is.only g a.other_face ((sides_are_placed (face_at mesh g) p).1 (j, a.is_place, sym a.same_edge)) in
        let second : h ≡ other.0 =
        is.only h b.other_face ((sides_are_placed (face_at mesh h) p).1 (i, b.is_place, sym b.same_edge)) in
        let same : g ≡ h = first ∙ sym second in
        let i_in : i < length (face_at mesh g) = subst (λ q. i < length (face_at mesh q)) (sym same) b.is_place in
        let i_side : p ≡ side_pair (face_at mesh g) i =
        b.same_edge ∙ ap (λ q. side_pair (face_at mesh q) i) (sym same) in (
          same,
          side_place mesh.vertices (face_at mesh g) (surface.is_mesh g [] a.is_face) j i a.is_place i_in
              (sym a.same_edge ∙ i_side),
        )
