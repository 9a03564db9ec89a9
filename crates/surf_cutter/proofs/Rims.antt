-- The border sides at the copies, and the corners of a side by its face.
use Rattle.surf_slit.proofs.Common.{◌≡◌, ◌≢◌, ℕ, zero, suc, ◌+◌, ◌-◌, ◌<◌, ◌≤◌, inl, inr, sym, refl, subst, ap, ◌∙◌, cond, List, [], ◌∷◌, length, get_or, take, replicate, eqb, arith, eqb-true, flat_map, sum_by, cases_Bool, cases_eq, eqb-false, Mesh, IsMesh, after, face_at, face_count, side_count, first_side, IsFaceOf, take-length, set, get_or-map, length-set, length-map, length-replicate, get_or-replicate, get_or-set_same, get_or-set_other, after-below, IsOpenedBy, same_pair, spans, corner_at_place, corners_len}
use Rattle.surf_cutter.proofs.Common.{nobody, corners_of, HasCopy, IsBorderSide, AreBorderSides, HasPairedBorder, HaveSameSizes, AreRims, IsOneOf, LeadsFrom, AreReaches, sides_of, with_reach, other_reach}
use Rattle.std.proofs.lemmas.List.{map-set}
use Rattle.surf_cutter.proofs.BorderSides.{corners_at_place}
use Rattle.surf_cutter.proofs.RimTables.{over, AreRimsTo, IsRimTo, IsListedAt}
use Rattle.surf_cutter.proofs.BorderTables.{copy_in}

-- two sides, the first of which may still be missing, with one side more
abbrev pub with_side : ℕ × ℕ → ℕ → ℕ × ℕ
with_side rim s = cond (eqb rim.0 nobody) (s, rim.1) (rim.0, s)

-- of two sides the one that isn't the given one
abbrev pub other_of : ℕ × ℕ → ℕ → ℕ
other_of rim s = cond (eqb rim.0 s) rim.1 rim.0

-- the faces of an opening have the sizes of those of the surface
pub same_sizes : {mesh : Mesh} {Uncut : ℕ → ℕ → Type 0} {origins : List ℕ} {faces : List (List ℕ)} → IsOpenedBy mesh Uncut origins faces → HaveSameSizes mesh faces
same_sizes {mesh} {Uncut} {origins} {faces} by = record {
  count = by.same_faces;
  sizes = λ f h. sym (length-map (get_or faces f []) (λ copy. get_or origins copy 0)) ∙ ap length (by.same_corners f h);
}

-- so the first sides of the faces are the same
pub same_first : (mesh : Mesh) (faces : List (List ℕ)) → HaveSameSizes mesh faces → (f : ℕ) → f ≤ face_count mesh → sum_by length (take f faces) ≡ first_side mesh f
same_first mesh faces same zero h = refl
same_first mesh faces same (suc f) h =
    let count = same.count in
    let size = same.sizes f (omega arith) in
    let a = spans faces f (omega arith) in
    let b = spans mesh.faces f (omega arith) in
    let before = same_first mesh faces same f (omega arith) in
    let z : f + 1 ≡ suc f = omega arith in
    subst (λ f. sum_by length (take f faces) ≡ first_side mesh f) z (omega (arith, a.0, b.0))

pub same_total : (mesh : Mesh) (faces : List (List ℕ)) → HaveSameSizes mesh faces → sum_by length faces ≡ side_count mesh
same_total mesh faces same =
    let n = face_count mesh in
    sym (ap (λ n. sum_by length (take n faces)) (sym same.count) ∙ ap (sum_by length) (take-length faces)) ∙ same_first mesh faces same (face_count mesh) (omega arith) ∙ ap (sum_by length) (take-length mesh.faces)

-- the corners of a side by its place in its face
pub corners_by_face : (mesh : Mesh) (faces : List (List ℕ)) → HaveSameSizes mesh faces → (s f k : ℕ) (row : List ℕ) → IsFaceOf mesh s f → row ≡ get_or faces f [] → s ≡ sum_by length (take f faces) + k →
    (k < length row) × ((get_or row k 0, get_or row (after (length row) k) 0) ≡ corners_of (over 0 faces) s)
corners_by_face mesh faces same s f k row of own is =
    let count = same.count in
    let size = same.sizes f of.is_face in
    let first = same_first mesh faces same f (let h = of.is_face in omega arith) in
    let long = ap length own in
    let lt : k < length (get_or faces f []) = omega (arith, of.from, of.upto) in
    let in' : f < length faces = let h = of.is_face in omega arith in (
      omega arith,
      ap (λ (row : List ℕ). (get_or row k 0, get_or row (after (length row) k) 0)) own ∙ sym (corners_at_place (over 0 faces) f k in' lt) ∙ ap (corners_of (over 0 faces)) (sym is),
    )

-- the same where the corners of all faces stand in one table
module _ (mesh : Mesh) (faces : List (List ℕ)) (same : HaveSameSizes mesh faces) (s f first end : ℕ) (of : IsFaceOf mesh s f) (first_is : first ≡ first_side mesh f) (end_is : end ≡ first_side mesh f + length (face_at mesh f)) where
  in_face : (first ≤ s) × (s < end)
  in_face = (omega (arith, of.from), omega (arith, of.upto))

  own_first : sum_by length (take f faces) ≡ first
  own_first = same_first mesh faces same f (let h = of.is_face in omega arith) ∙ sym first_is

  long : end - first ≡ length (get_or faces f [])
  long = omega (arith, same.sizes f of.is_face)

  module _ (table : List ℕ) (table_is : table ≡ flat_map (λ row. row) faces) where
    table_entry : (k : ℕ) → k < length (get_or faces f []) → get_or table (first + k) 0 ≡ get_or (get_or faces f []) k 0
    table_entry k lt =
        let count = same.count in
        ap (λ (xs : List ℕ). get_or xs (first + k) 0) table_is ∙ ap (λ n. get_or (flat_map (λ row. row) faces) (n + k) 0) (sym own_first)
        ∙ corner_at_place (over 0 faces) f k 0 (let h = of.is_face in omega arith) lt

    pub in_table : (t : ℕ) → t < side_count mesh → t < length table
    in_table t lt = omega (arith, ap length table_is, corners_len (over 0 faces), same_total mesh faces same)

    pub after_in : end ≤ side_count mesh → first + after (end - first) (s - first) < length table
    after_in inside =
        let next = after-below (end - first) (s - first) (omega (arith, in_face.0, in_face.1)) in
        in_table (first + after (end - first) (s - first)) (omega (arith, next))

    pub corners_in_table : (get_or table s 0, get_or table (first + after (end - first) (s - first)) 0) ≡ corners_of (over 0 faces) s
    corners_in_table =
        let row = get_or faces f [] in
        let k = s - first in
        let lt : k < length row = omega (arith, long, in_face.0, in_face.1) in
        let here : s ≡ first + k = omega (arith, in_face.0) in
        let tail : get_or table s 0 ≡ get_or row k 0 = ap (λ n. get_or table n 0) here ∙ table_entry k lt in
        let head : get_or table (first + after (end - first) k) 0 ≡ get_or row (after (length row) k) 0 = ap (λ n. get_or table (first + after n k) 0) long ∙ table_entry (after (length row) k) (after-below (length row) k lt) in
        same_pair tail head ∙ (corners_by_face mesh faces same s f k row of refl (here ∙ ap (λ n. n + k) (sym own_first))).1

-- at first there are no sides
pub rims_none : (mesh : Mesh) (border : List ℕ) (n : ℕ) → n ≡ mesh.vertices → AreRimsTo mesh border 0 (replicate n (nobody, nobody))
rims_none mesh border n e = record {
  size = length-replicate n (nobody, nobody) ∙ e;
  at = λ c h.
      let is : get_or (replicate n (nobody, nobody)) c (0, 0) ≡ (nobody, nobody) = get_or-replicate n c (nobody, nobody) (0, 0) (omega arith) in
      subst (IsRimTo mesh border 0 c) (sym is) (record {
        all = λ k h. absurd (omega arith);
        first = λ ne. absurd (ne refl);
        second = λ ne. absurd (ne refl);
        in_turn = λ ne. absurd (ne refl);
      });
}

module _ (mesh : Mesh) (border : List ℕ) (paired : HasPairedBorder mesh) (are : AreBorderSides mesh border) (few : side_count mesh < nobody) (n : ℕ) (lt : n < length border) where
  side : ℕ
  side = get_or border n 0

  is_known : (k : ℕ) → k < length border → get_or border k 0 ≢ nobody
  is_known k h e = let b = (are.border k h).0 in absurd (omega arith)

  more : (c s : ℕ) → IsListedAt mesh border n c s → IsListedAt mesh border (n + 1) c s
  more c s at = let k = at.1 in (at.0, omega arith, at.2, at.3)

  -- one listed before is another one
  differs : (c s : ℕ) → IsListedAt mesh border n c s → s ≢ get_or border n 0
  differs c s at e = let r = are.rises at.0 n at.1 lt in let i = at.2 in absurd (omega arith)

  listed : (c s : ℕ) → IsListedAt mesh border n c s → IsBorderSide mesh s
  listed c s at = let k = at.1 in subst (IsBorderSide mesh) at.2 (are.border at.0 (omega arith))

  rim_kept : (c : ℕ) (rim : ℕ × ℕ) → IsRimTo mesh border n c rim → (HasCopy mesh (get_or border n 0) c → ⊥) → IsRimTo mesh border (n + 1) c rim
  rim_kept c rim is off = record {
    all = λ k h has. elim (cases_eq k n) [
      | inl e ↦ absurd (off (subst (λ k. HasCopy mesh (get_or border k 0) c) e has))
      | inr ne ↦ is.all k (omega arith) has
    ];
    first = λ ne. more c rim.0 (is.first ne);
    second = λ ne. more c rim.1 (is.second ne);
    in_turn = is.in_turn;
  }

  rim_first : (c : ℕ) (rim : ℕ × ℕ) → IsRimTo mesh border n c rim → HasCopy mesh (get_or border n 0) c → rim.0 ≡ nobody → IsRimTo mesh border (n + 1) c (get_or border n 0, rim.1)
  rim_first c rim is has none =
      let no_second : rim.1 ≢ nobody → ⊥ = λ ne. (is.in_turn ne).0 none in
      record {
        all = λ k h at. elim (cases_eq k n) [
          | inl e ↦ inl (ap (λ k. get_or border k 0) (sym e))
          | inr ne ↦ elim (is.all k (omega arith) at) [
            | inl e ↦ absurd (is_known k (omega arith) (sym e ∙ none))
            | inr e ↦ inr e
          ]
        ];
        first = λ ne. (n, omega arith, refl, has);
        second = λ ne. absurd (no_second ne);
        in_turn = λ ne. absurd (no_second ne);
      }

  rim_second : (c : ℕ) (rim : ℕ × ℕ) → IsRimTo mesh border n c rim → HasCopy mesh (get_or border n 0) c → rim.0 ≢ nobody → IsRimTo mesh border (n + 1) c (rim.0, get_or border n 0)
  rim_second c rim is has some =
      let s = get_or border n 0 in
      let first = is.first some in
      let b : IsBorderSide mesh s = are.border n lt in
      let no_second : rim.1 ≢ nobody → ⊥ = λ ne.
      let second = is.second ne in
      elim (paired.no_third rim.0 rim.1 s c (listed c rim.0 first) (listed c rim.1 second) b first.3 second.3 has) [
        | inl e ↦ (is.in_turn ne).1 e
        | inr o ↦ elim o [ inl e ↦ differs c rim.0 first e | inr e ↦ differs c rim.1 second e ]
      ] in
      record {
        all = λ k h at. elim (cases_eq k n) [
          | inl e ↦ inr (ap (λ k. get_or border k 0) (sym e))
          | inr ne ↦ elim (is.all k (omega arith) at) [
            | inl e ↦ inl e
            | inr e ↦ absurd (no_second (λ z. is_known k (omega arith) (sym e ∙ z)))
          ]
        ];
        first = λ ne. more c rim.0 first;
        second = λ ne. (n, omega arith, refl, has);
        in_turn = λ ne. (some, differs c rim.0 first);
      }

  rim_more : (c : ℕ) (rim : ℕ × ℕ) → IsRimTo mesh border n c rim → HasCopy mesh (get_or border n 0) c → IsRimTo mesh border (n + 1) c (with_side rim (get_or border n 0))
  rim_more c rim is has = elim (cases_Bool (eqb rim.0 nobody)) [
    | inl none ↦ subst (λ b. IsRimTo mesh border (n + 1) c (cond b (get_or border n 0, rim.1) (rim.0, get_or border n 0))) (sym none) (rim_first c rim is has (eqb-true rim.0 nobody none))
    | inr some ↦ subst (λ b. IsRimTo mesh border (n + 1) c (cond b (get_or border n 0, rim.1) (rim.0, get_or border n 0))) (sym some) (rim_second c rim is has (eqb-false rim.0 nobody some))
  ]

  -- a side is added at both of its copies
  pub rims_more : (rims : List (ℕ × ℕ)) (tail head : ℕ) → AreRimsTo mesh border n rims → (tail, head) ≡ corners_of mesh (get_or border n 0) → tail < mesh.vertices → head < mesh.vertices →
      (middle new : List (ℕ × ℕ)) → middle ≡ set rims tail (with_side (get_or rims tail (0, 0)) (get_or border n 0)) → new ≡ set middle head (with_side (get_or middle head (0, 0)) (get_or border n 0)) →
      AreRimsTo mesh border (n + 1) new
  rims_more rims tail head rims_are corners tail_in head_in middle new middle_is new_is =
      let s = get_or border n 0 in
      let tail_is : tail ≡ (corners_of mesh s).0 = ap (λ (p : ℕ × ℕ). p.0) corners in
      let head_is : head ≡ (corners_of mesh s).1 = ap (λ (p : ℕ × ℕ). p.1) corners in
      let apart : tail ≢ head = λ e. paired.apart s (are.border n lt) (sym tail_is ∙ e ∙ head_is) in
      let size = rims_are.size in
      let add : ℕ → ℕ × ℕ = λ c. with_side (get_or rims c (0, 0)) s in
      let size_middle : length middle ≡ length rims = ap length middle_is ∙ length-set rims tail (add tail) in
      let at_head : get_or middle head (0, 0) ≡ get_or rims head (0, 0) = ap (λ (xs : List (ℕ × ℕ)). get_or xs head (0, 0)) middle_is ∙ get_or-set_other rims tail head (add tail) (0, 0) (λ e. apart (sym e)) in
      let is_new : new ≡ set middle head (add head) = new_is ∙ ap (λ (r : ℕ × ℕ). set middle head (with_side r s)) at_head in
      record {
        size = ap length is_new ∙ length-set middle head (add head) ∙ size_middle ∙ size;
        at = λ c h. elim (cases_eq c head) [
          | inl e ↦
              let is : get_or new head (0, 0) ≡ add head = ap (λ (xs : List (ℕ × ℕ)). get_or xs head (0, 0)) is_new ∙ get_or-set_same middle head (add head) (0, 0) (omega arith) in
              subst (λ c. IsRimTo mesh border (n + 1) c (get_or new c (0, 0))) (sym e) (subst (IsRimTo mesh border (n + 1) head) (sym is) (rim_more head (get_or rims head (0, 0)) (rims_are.at head head_in) (inr head_is)))
          | inr ne ↦
              let is : get_or new c (0, 0) ≡ get_or middle c (0, 0) = ap (λ (xs : List (ℕ × ℕ)). get_or xs c (0, 0)) is_new ∙ get_or-set_other middle head c (add head) (0, 0) ne in
              subst (IsRimTo mesh border (n + 1) c) (sym is) (elim (cases_eq c tail) [
                | inl e ↦
                    let was : get_or middle tail (0, 0) ≡ add tail = ap (λ (xs : List (ℕ × ℕ)). get_or xs tail (0, 0)) middle_is ∙ get_or-set_same rims tail (add tail) (0, 0) (omega arith) in
                    subst (λ c. IsRimTo mesh border (n + 1) c (get_or middle c (0, 0))) (sym e) (subst (IsRimTo mesh border (n + 1) tail) (sym was) (rim_more tail (get_or rims tail (0, 0)) (rims_are.at tail tail_in) (inl tail_is)))
                | inr off ↦
                    let was : get_or middle c (0, 0) ≡ get_or rims c (0, 0) = ap (λ (xs : List (ℕ × ℕ)). get_or xs c (0, 0)) middle_is ∙ get_or-set_other rims tail c (add tail) (0, 0) off in
                    subst (IsRimTo mesh border (n + 1) c) (sym was) (rim_kept c (get_or rims c (0, 0)) (rims_are.at c h) (λ has. elim has [
                      | inl x ↦ off (x ∙ sym tail_is)
                      | inr x ↦ ne (x ∙ sym head_is)
                    ]))
              ])
        ];
      }

-- all border sides are added
pub rims_done : (mesh : Mesh) (border : List ℕ) → IsMesh mesh → AreBorderSides mesh border → (n : ℕ) → n ≡ length border → (rims : List (ℕ × ℕ)) → AreRimsTo mesh border n rims → AreRims mesh rims
rims_done mesh border is_mesh are n e rims to = record {
  size = to.size;
  all = λ s c b has.
      let k = are.all s b in
      let lt = k.1 in
      subst (IsOneOf (get_or rims c (0, 0))) k.2 ((to.at c (copy_in mesh is_mesh s c b.0 has)).all k.0 (omega arith) (subst (λ s. HasCopy mesh s c) (sym k.2) has));
}

-- the other border side at a copy
pub other_is : (mesh : Mesh) (rims : List (ℕ × ℕ)) → HasPairedBorder mesh → AreRims mesh rims → (s c : ℕ) → IsBorderSide mesh s → HasCopy mesh s c → (t : ℕ) → t ≡ other_of (get_or rims c (0, 0)) s →
    IsBorderSide mesh t × HasCopy mesh t c × (t ≢ s)
other_is mesh rims paired are s c b has t t_is =
    let rim = get_or rims c (0, 0) in
    let u = paired.another s c b has in
    let at_u = are.all u.0 c u.1 u.2 in
    let at_s = are.all s c b has in
    let same : other_of rim s ≡ u.0 = elim (cases_Bool (eqb rim.0 s)) [
      | inl e ↦ ap (λ b. cond b rim.1 rim.0) e ∙ elim at_u [
        | inl x ↦ absurd (u.3 (sym x ∙ eqb-true rim.0 s e))
        | inr x ↦ x
      ]
      | inr ne ↦ ap (λ b. cond b rim.1 rim.0) ne ∙ elim at_u [
        | inl x ↦ x
        | inr x ↦ elim at_s [
          | inl y ↦ absurd (eqb-false rim.0 s ne y)
          | inr y ↦ absurd (u.3 (sym x ∙ y))
        ]
      ]
    ] in
    let own : u.0 ≡ t = sym (t_is ∙ same) in
    (subst (IsBorderSide mesh) own u.1, subst (λ t. HasCopy mesh t c) own u.2, λ e. u.3 (own ∙ e))

pub sides_size : (rims : List ((ℕ × ℕ) × (ℕ × ℕ))) → length (sides_of rims) ≡ length rims
sides_size [] = refl
sides_size (rim ∷ rims) = ap suc (sides_size rims)

pub sides_none : (n : ℕ) → sides_of (replicate n ((nobody, 0), (nobody, 0))) ≡ replicate n (nobody, nobody)
sides_none zero = refl
sides_none (suc n) = ap (λ (rims : List (ℕ × ℕ)). (nobody, nobody) ∷ rims) (sides_none n)

-- what stands at a copy, by the sides alone
sides_at : (rims : List ((ℕ × ℕ) × (ℕ × ℕ))) (c : ℕ) → c < length rims → get_or (sides_of rims) c (0, 0) ≡ ((get_or rims c ((0, 0), (0, 0))).0.0, (get_or rims c ((0, 0), (0, 0))).1.0)
sides_at rims c lt = get_or-map (λ rim. (rim.0.0, rim.1.0)) rims c ((0, 0), (0, 0)) (0, 0) lt

with_reach_side : (rim : (ℕ × ℕ) × (ℕ × ℕ)) (s far : ℕ) → ((with_reach rim (s, far)).0.0, (with_reach rim (s, far)).1.0) ≡ with_side (rim.0.0, rim.1.0) s
with_reach_side rim s far = elim (cases_Bool (eqb rim.0.0 nobody)) [ inl e ↦ rw e refl | inr e ↦ rw e refl ]

other_reach_side : (rim : (ℕ × ℕ) × (ℕ × ℕ)) (s : ℕ) → (other_reach rim s).0 ≡ other_of (rim.0.0, rim.1.0) s
other_reach_side rim s = elim (cases_Bool (eqb rim.0.0 s)) [ inl e ↦ rw e refl | inr e ↦ rw e refl ]

-- one side more, seen without the copies to which sides lead
pub sides_with : (rims : List ((ℕ × ℕ) × (ℕ × ℕ))) (c s far : ℕ) → c < length rims →
    sides_of (set rims c (with_reach (get_or rims c ((0, 0), (0, 0))) (s, far))) ≡ set (sides_of rims) c (with_side (get_or (sides_of rims) c (0, 0)) s)
sides_with rims c s far lt =
    map-set (λ rim. (rim.0.0, rim.1.0)) rims c (with_reach (get_or rims c ((0, 0), (0, 0))) (s, far))
    ∙ ap (λ (p : ℕ × ℕ). set (sides_of rims) c p) (with_reach_side (get_or rims c ((0, 0), (0, 0))) s far ∙ ap (λ (p : ℕ × ℕ). with_side p s) (sym (sides_at rims c lt)))

reach_with : (mesh : Mesh) (c : ℕ) (rim : (ℕ × ℕ) × (ℕ × ℕ)) (s far : ℕ) → LeadsFrom mesh c rim.0 × LeadsFrom mesh c rim.1 → HasCopy mesh s far → far ≢ c →
    LeadsFrom mesh c (with_reach rim (s, far)).0 × LeadsFrom mesh c (with_reach rim (s, far)).1
reach_with mesh c rim s far lead has apart = elim (cases_Bool (eqb rim.0.0 nobody)) [
  | inl e ↦ rw e (λ some. (has, apart), lead.1)
  | inr e ↦ rw e (lead.0, λ some. (has, apart))
]

-- a side and where it leads are added at a copy
pub reaches_with : (mesh : Mesh) (rims : List ((ℕ × ℕ) × (ℕ × ℕ))) (c s far : ℕ) → AreReaches mesh rims → c < length rims → HasCopy mesh s far → far ≢ c →
    AreReaches mesh (set rims c (with_reach (get_or rims c ((0, 0), (0, 0))) (s, far)))
reaches_with mesh rims c s far are lt has apart d h =
    let new = with_reach (get_or rims c ((0, 0), (0, 0))) (s, far) in
    let size = length-set rims c new in
    elim (cases_eq d c) [
      | inl e ↦
          subst (λ d. LeadsFrom mesh d (get_or (set rims c new) d ((0, 0), (0, 0))).0 × LeadsFrom mesh d (get_or (set rims c new) d ((0, 0), (0, 0))).1) (sym e)
          (subst (λ (rim : (ℕ × ℕ) × (ℕ × ℕ)). LeadsFrom mesh c rim.0 × LeadsFrom mesh c rim.1) (sym (get_or-set_same rims c new ((0, 0), (0, 0)) lt))
          (reach_with mesh c (get_or rims c ((0, 0), (0, 0))) s far (are c lt) has apart))
      | inr ne ↦
          subst (λ (rim : (ℕ × ℕ) × (ℕ × ℕ)). LeadsFrom mesh d rim.0 × LeadsFrom mesh d rim.1) (sym (get_or-set_other rims c d new ((0, 0), (0, 0)) ne))
          (are d (omega arith))
    ]

-- at first no side leads anywhere
pub reaches_none : (mesh : Mesh) (n : ℕ) → AreReaches mesh (replicate n ((nobody, 0), (nobody, 0)))
reaches_none mesh n c h =
    let none : (ℕ × ℕ) × (ℕ × ℕ) = ((nobody, 0), (nobody, 0)) in
    let is : get_or (replicate n none) c ((0, 0), (0, 0)) ≡ none = get_or-replicate n c none ((0, 0), (0, 0)) (omega (arith, h, length-replicate n none)) in
    subst (λ (rim : (ℕ × ℕ) × (ℕ × ℕ)). LeadsFrom mesh c rim.0 × LeadsFrom mesh c rim.1) (sym is) (λ ne. absurd (ne refl), λ ne. absurd (ne refl))

-- from a border side over its copy c, the other border side there and where it leads
pub record IsNext (mesh : Mesh) (s c t d : ℕ) : Type 0 where
  pub border : IsBorderSide mesh t
  pub at : HasCopy mesh t c
  pub differs : t ≢ s
  pub far : HasCopy mesh t d
  pub turns : d ≢ c

pub other_reaches : (mesh : Mesh) (rims : List ((ℕ × ℕ) × (ℕ × ℕ))) → HasPairedBorder mesh → AreRims mesh (sides_of rims) → AreReaches mesh rims → side_count mesh < nobody →
    (s c : ℕ) → IsBorderSide mesh s → HasCopy mesh s c → c < length rims → (next : ℕ × ℕ) → next ≡ other_reach (get_or rims c ((0, 0), (0, 0))) s → IsNext mesh s c next.0 next.1
other_reaches mesh rims paired are reaches few s c b has lt next next_is =
    let rim = get_or rims c ((0, 0), (0, 0)) in
    let other : next.0 ≡ other_of (get_or (sides_of rims) c (0, 0)) s = ap (λ (p : ℕ × ℕ). p.0) next_is ∙ other_reach_side rim s ∙ ap (λ (p : ℕ × ℕ). other_of p s) (sym (sides_at rims c lt)) in
    let o = other_is mesh (sides_of rims) paired are s c b has next.0 other in
    let some : next.0 ≢ nobody = λ e. (let below = o.0.0 in absurd (omega (arith, below, few, e))) in
    let lead : LeadsFrom mesh c (other_reach rim s) = elim (cases_Bool (eqb rim.0.0 s)) [ inl e ↦ rw e (reaches c lt).1 | inr e ↦ rw e (reaches c lt).0 ] in
    let led = subst (LeadsFrom mesh c) (sym next_is) lead some in
    record { border = o.0; at = o.1; differs = o.2; far = led.0; turns = led.1 }
