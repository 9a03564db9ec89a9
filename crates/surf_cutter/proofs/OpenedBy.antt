-- Faces over numbered labels are opened along the uncut edges, with their copies in order.
use Rattle.surf_slit.proofs.Common.{◌≡◌, ℕ, ◌+◌, ◌<◌, ◌≤◌, inl, inr, sym, subst, ap, ◌∙◌, List, [], length, get_or, map, Bool, All, Contains, arith, cases_eq, cases_lt, cases_order, get_or_default, same_lists, length-map, get_or-map, All-from_get_or, Joined, Mesh, face_count, face_at, IsSurface, side_count, first_side, IsFaceOf, ShareUncutAt, IsOpenedBy, spans, one_corner, first_mono, IsPlaced, placed, corner_at_place, corner_at, IsUncut, AreLabels}
use Rattle.surf_cutter.proofs.Common.{AreInOrder, all_corners, AreCounted}
use Rattle.surf_cutter.proofs.FaceTables.{AreCopied}
use Rattle.surf_cutter.proofs.Sorted.{AreSorted}

module _ {mesh : Mesh} (surface : IsSurface mesh) {cut : List Bool} {labels : List ℕ} {count : ℕ} (are : AreLabels mesh cut labels count)
    {order numbers origins : List ℕ} {faces : List (List ℕ)} (sorted : AreSorted mesh order) (counted : AreCounted order labels (all_corners mesh) (length order) numbers origins) (copied : AreCopied mesh labels numbers (face_count mesh) faces) where
  -- the number of a side's label
  abbrev number : ℕ → ℕ
  number s = get_or numbers (get_or labels s 0) 0

  side_of : ℕ × ℕ → ℕ
  side_of x = first_side mesh x.0 + x.1

  side_in : (f k : ℕ) → f < face_count mesh → k < length (face_at mesh f) → first_side mesh f + k < side_count mesh
  side_in f k h g = let sp = spans mesh.faces f h in omega (arith, sp.0, sp.1)

  side_face : (f k : ℕ) → f < face_count mesh → k < length (face_at mesh f) → IsFaceOf mesh (first_side mesh f + k) f
  side_face f k h g = record { is_face = h; from = omega arith; upto = omega arith }

  number_below : (s : ℕ) → s < side_count mesh → number s < length origins
  number_below s h = let i = sorted.has s h in subst (λ t. number t < length origins) i.2 (counted.below i.0 i.1)

  same_label : (s t : ℕ) → s < side_count mesh → t < side_count mesh → number s ≡ number t → get_or labels s 0 ≡ get_or labels t 0
  same_label s t h g e =
      let i = sorted.has s h in
      let j = sorted.has t g in
      ap (λ s. get_or labels s 0) (sym i.2) ∙ counted.apart i.0 j.0 i.1 j.1 (ap number i.2 ∙ e ∙ ap number (sym j.2)) ∙ ap (λ s. get_or labels s 0) j.2

  -- the corner at a place of the opening
  entry : (f k : ℕ) → f < face_count mesh → k < length (face_at mesh f) → get_or (get_or faces f []) k 0 ≡ number (first_side mesh f + k)
  entry f k h g = copied.entries f k h g

  corner_is : (f k : ℕ) → f < face_count mesh → k < length (face_at mesh f) → corner_at mesh (first_side mesh f + k) ≡ get_or (face_at mesh f) k 0
  corner_is f k h g = corner_at_place mesh f k 0 h g

  -- the vertex of a number is that of the sides with it
  origin_is : (s : ℕ) → s < side_count mesh → get_or origins (number s) 0 ≡ corner_at mesh s
  origin_is s h =
      let p = counted.first (number s) (number_below s h) in
      let t = get_or order p.0 0 in
      let t_in = sorted.inside p.0 p.1 in
      let same = same_label t s t_in h p.2.has in
      let a = placed mesh t t_in in
      let b = placed mesh s h in
      let face : (s : ℕ) (f k : ℕ) → IsPlaced mesh s f k → IsFaceOf mesh s f = λ s f k x. record { is_face = x.is_face; from = omega (arith, x.number); upto = omega (arith, x.number, x.is_place) } in
      p.2.vertex ∙ ((are.agree t s a.0 b.0 (face t a.0 a.1.0 a.1.1) (face s b.0 b.1.0 b.1.1)).0 same).0

  pub opened_by : IsOpenedBy mesh (IsUncut mesh cut) origins faces
  opened_by = record {
    same_faces = copied.size;
    same_corners = λ f h.
        let n = copied.row_sizes f h in
        same_lists (map (λ copy. get_or origins copy 0) (get_or faces f [])) (face_at mesh f) (length-map (get_or faces f []) (λ copy. get_or origins copy 0) ∙ n)
        (λ k d lt.
        let m = length-map (get_or faces f []) (λ copy. get_or origins copy 0) in
        let g : k < length (face_at mesh f) = omega arith in
        get_or-map (λ copy. get_or origins copy 0) (get_or faces f []) k 0 d (omega arith) ∙ ap (λ c. get_or origins c 0) (entry f k h g) ∙ origin_is (first_side mesh f + k) (side_in f k h g) ∙ corner_is f k h g ∙ get_or_default (face_at mesh f) k 0 d g);
    inside = All-from_get_or (All (λ copy. copy < length origins)) faces [] (λ f h.
        let g : f < face_count mesh = let n = copied.size in omega arith in
        All-from_get_or (λ copy. copy < length origins) (get_or faces f []) 0 (λ k lt.
        let i : k < length (face_at mesh f) = let n = copied.row_sizes f g in omega arith in
        subst (λ c. c < length origins) (sym (entry f k g i)) (number_below (first_side mesh f + k) (side_in f k g i))));
    every_copy = λ c h. has_copy c h;
    one_copy = λ x y h g.
        let s = first_side mesh x.0 + x.1 in
        let t = first_side mesh y.0 + y.1 in
        let s_in = side_in x.0 x.1 h.0 h.1 in
        let t_in = side_in y.0 y.1 g.0 g.1 in
        let v = corner_is x.0 x.1 h.0 h.1 in
        let w = corner_is y.0 y.1 g.0 g.1 in
        let k = are.agree s t x.0 y.0 (side_face x.0 x.1 h.0 h.1) (side_face y.0 y.1 g.0 g.1) in
        let P : ℕ → Type 0 = λ v. Joined (ShareUncutAt mesh (IsUncut mesh cut) v) x.0 y.0 in (
          (λ e. let m = k.0 (same_label s t s_in t_in (sym (entry x.0 x.1 h.0 h.1) ∙ e ∙ entry y.0 y.1 g.0 g.1)) in (sym v ∙ m.0 ∙ w, subst P v m.1)),
          (λ m. entry x.0 x.1 h.0 h.1 ∙ ap (λ l. get_or numbers l 0) (k.1 (v ∙ m.0 ∙ sym w, subst P (sym v) m.1)) ∙ sym (entry y.0 y.1 g.0 g.1)),
        );
  }
    where
      has_copy : (c : ℕ) → c < length origins → (f : ℕ) × (f < face_count mesh) × Contains (get_or faces f []) c
      has_copy c h =
          let p = counted.first c h in
          let t = get_or order p.0 0 in
          let a = placed mesh t (sorted.inside p.0 p.1) in
          let f = a.0 in
          let k = a.1.0 in
          let is = a.1.1 in
          let n = copied.row_sizes f is.is_face in
          let own = is.is_place in
          let g : k < length (get_or faces f []) = omega arith in
          (f, is.is_face, (k, g, get_or_default (get_or faces f []) k c 0 g ∙ entry f k is.is_face is.is_place ∙ ap number (sym is.number) ∙ p.2.has))

  -- a side in a face's row
  record IsIn (c f s : ℕ) : Type 0 where
    is_side : s < side_count mesh
    its_face : IsFaceOf mesh s f
    its_number : number s ≡ c

  in_row : (c f : ℕ) → f < face_count mesh → Contains (get_or faces f []) c → (s : ℕ) × IsIn c f s
  in_row c f h has =
      let k = has.0 in
      let n = copied.row_sizes f h in
      let lt = has.1 in
      let g : k < length (face_at mesh f) = omega arith in
      (first_side mesh f + k, record { is_side = side_in f k h g; its_face = side_face f k h g; its_number = sym (entry f k h g) ∙ get_or_default (get_or faces f []) k 0 c has.1 ∙ has.2 })

  -- of two sides the one with the lesser number is of no later face
  faces_rise : (s t f g : ℕ) → IsFaceOf mesh s f → IsFaceOf mesh t g → s < t → f ≤ g
  faces_rise s t f g a b lt = elim (cases_lt g f) [
    | inr le ↦ le
    | inl gt ↦ let m = first_mono mesh (g + 1) f (omega arith) in let sp = spans mesh.faces g b.is_face in absurd (omega (arith, sp.0, a.from, b.upto))
  ]

  pub in_order : AreInOrder mesh origins faces
  in_order c d lt h =
      let p = counted.first c (omega arith) in
      let q = counted.first d h in
      let s = get_or order p.0 0 in
      let t = get_or order q.0 0 in
      let pq : p.0 < q.0 = elim (cases_order p.0 q.0) [
        | inl e ↦ let z = ap (λ i. number (get_or order i 0)) e in let a = p.2.has in let b = q.2.has in absurd (omega arith)
        | inr o ↦ elim o [ inl i ↦ i | inr gt ↦ let b = p.2.lesser q.0 gt in let a = q.2.has in absurd (omega arith) ]
      ] in
      let a = p.2.vertex in
      let b = q.2.vertex in
      elim (sorted.rises p.0 q.0 pq q.1) [
        | inl less ↦ inl (omega arith)
        | inr same ↦ inr (
          a ∙ same.0 ∙ sym b,
          (let x = placed mesh s (sorted.inside p.0 p.1) in
              let f = x.0 in
              let k = x.1.0 in
              let is = x.1.1 in
              let own = is.is_place in
              let n = copied.row_sizes f is.is_face in
              let g : k < length (get_or faces f []) = omega arith in
              let its : IsFaceOf mesh s f = record { is_face = is.is_face; from = omega (arith, is.number); upto = omega (arith, is.number) } in (
                f,
                is.is_face,
                (k, g, get_or_default (get_or faces f []) k c 0 g ∙ entry f k is.is_face is.is_place ∙ ap number (sym is.number) ∙ p.2.has),
                (λ g g_in has.
                    let y = in_row d g g_in has in
                    let u = y.0 in
                    let j = sorted.has u y.1.is_side in
                    let late : q.0 ≤ j.0 = elim (cases_lt j.0 q.0) [
                      | inr le ↦ le
                      | inl early ↦ let z = q.2.lesser j.0 early in let w = ap number j.2 in let num = y.1.its_number in absurd (omega arith)
                    ] in
                    let at_u : corner_at mesh u ≡ corner_at mesh s = sym (origin_is u y.1.is_side) ∙ ap (λ c. get_or origins c 0) y.1.its_number ∙ b ∙ sym same.0 in
                    let after_s : s < u = elim (sorted.rises p.0 j.0 (omega arith) j.1) [
                      | inl less ↦ let z = ap (corner_at mesh) j.2 in absurd (omega arith)
                      | inr r ↦ subst (λ u. s < u) j.2 r.1
                    ] in
                    let le = faces_rise s u f g its y.1.its_face after_s in
                    elim (cases_eq f g) [
                      | inr ne ↦ omega arith
                      | inl e ↦ let i = one_corner mesh surface.is_mesh s u g (subst (λ f. IsFaceOf mesh s f) e its) y.1.its_face (sym at_u) in absurd (omega arith)
                    ]),
              )),
        )
      ]
