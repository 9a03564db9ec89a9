-- Two openings along the same edges, both with their copies in order, are one.
use Rattle.surf_surfaces.proofs.Common.{Contains, ◌≡◌, ℕ, zero, suc, ◌<◌, ◌≤◌, ◌⊎◌, inl, inr, sym, refl, subst, ap, ◌∙◌, List, [], length, get_or, arith, cases_order, get_or_default, same_lists, Contains-get_or, Mesh, face_count, face_at, IsSurface}
use Rattle.surf_opening.specs.Laws.{OpeningsInOrderAreOne}
use Rattle.surf_opening.specs.ChosenCut.{AreInOrder}
use Rattle.surf_opening.specs.Opening.{corner_of}
use Rattle.surf_opening.proofs.sides.SideWords.{IsOpenedAlong, IsSides}
use Rattle.surf_opening.specs.Side.{Side, IsPlace}
use Rattle.surf_opening.proofs.counts.Counting.{numbers_same}
use Rattle.surf_opening.proofs.LawProofs.{along_list}
use Rattle.surf_opening.proofs.openings.Opened.{copies_counted, copy_below, origin_at, same_length}
use Rattle.surf_opening.proofs.openings.OpeningLaw.{surface_sides}

-- a rising relation that has every number below n lowers none
no_lower : (n : ℕ) (M : ℕ → ℕ → Type 0) → ((c : ℕ) → c < n → (d : ℕ) × M c d) →
    ((c e d f : ℕ) → c < e → e < n → M c d → M e f → d < f) → (c d : ℕ) → c < n → M c d → c ≤ d
no_lower n M some up zero d h m = omega arith
no_lower n M some up (suc c) d h m =
    let b = some c (omega arith) in
    let i : c ≤ b.0 = no_lower n M some up c b.0 (omega arith) b.1 in
    let j : b.0 < d = up c (suc c) b.0 d (omega arith) h b.1 m in
    omega arith

module _ {mesh : Mesh} (surface : IsSurface mesh) (uncut : List (ℕ × ℕ)) where
  abbrev sides : IsSides (Side mesh)
  sides = surface_sides surface

  -- c is the one's copy of a corner, and d the other's
  record Match (faces faces' : List (List ℕ)) (c d : ℕ) : Type 0 where
    place : ℕ × ℕ
    is_place : IsPlace mesh place
    one : corner_of faces place ≡ c
    other : corner_of faces' place ≡ d

  module _ {origins : List ℕ} {faces : List (List ℕ)} {origins' : List ℕ} {faces' : List (List ℕ)}
      (opened : IsOpenedAlong mesh uncut origins faces) (opened' : IsOpenedAlong mesh uncut origins' faces') where
    match_some : (c : ℕ) → c < length origins → (d : ℕ) × Match faces faces' c d
    match_some c h = let x = (copies_counted sides opened).onto c h in
        (corner_of faces' x.0, record { place = x.0; is_place = x.1; one = x.2; other = refl })

    match_one : {c d e : ℕ} → Match faces faces' c d → Match faces faces' c e → d ≡ e
    match_one m n = sym m.other ∙ (opened'.one_copy m.place n.place m.is_place n.is_place).1
        ((opened.one_copy m.place n.place m.is_place n.is_place).0 (m.one ∙ sym n.one)) ∙ n.other

    match_origin : {c d : ℕ} → Match faces faces' c d → get_or origins c 0 ≡ get_or origins' d 0
    match_origin m =
        ap (λ c. get_or origins c 0) (sym m.one) ∙ origin_at sides opened m.place.0 m.place.1 m.is_place
        ∙ sym (origin_at sides opened' m.place.0 m.place.1 m.is_place) ∙ ap (λ c. get_or origins' c 0) m.other

    match_below : {c d : ℕ} → Match faces faces' c d → d < length origins'
    match_below m = subst (λ d. d < length origins') m.other (copy_below sides opened' m.place.0 m.place.1 m.is_place)

    -- a face that has the one has the other
    match_face : {c d : ℕ} (f : ℕ) → Match faces faces' c d → f < face_count mesh → Contains (get_or faces f []) c →
        Contains (get_or faces' f []) d
    match_face {c} {d} f m h has =
        let i = has.0 in
        let i_in : i < length (get_or faces f []) = has.1 in
        let i_below : i < length (face_at mesh f) = subst (λ n. i < n) (same_length sides opened h) i_in in
        let n : Match faces faces' c (corner_of faces' (f, i)) =
        record {
          place = (f, i);
          is_place = (h, i_below);
          one = get_or_default (get_or faces f []) i 0 c i_in ∙ has.2;
          other = refl;
        } in
        subst (λ d. Contains (get_or faces' f []) d) (match_one n m)
        (Contains-get_or (get_or faces' f []) i 0 (subst (λ n. i < n) (sym (same_length sides opened' h)) i_below))

  turned : {faces faces' : List (List ℕ)} {c d : ℕ} → Match faces faces' c d → Match faces' faces d c
  turned m = record { place = m.place; is_place = m.is_place; one = m.other; other = m.one }

  rising : {origins : List ℕ} {faces : List (List ℕ)} {origins' : List ℕ} {faces' : List (List ℕ)}
      (opened : IsOpenedAlong mesh uncut origins faces) (opened' : IsOpenedAlong mesh uncut origins' faces') →
      AreInOrder mesh origins faces → AreInOrder mesh origins' faces' → (c e d f : ℕ) → c < e → e < length origins →
      Match faces faces' c d → Match faces faces' e f → d < f
  rising {origins} {faces} {origins'} {faces'} opened opened' order order' c e d f h e_in m n = elim (cases_order d f) [
    | inl k ↦ let s : c ≡ e =
        match_one opened' opened (turned m) (subst (λ d. Match faces' faces d e) (sym k) (turned n)) in absurd (omega arith)
    | inr o ↦ elim o [
      | inl k ↦ k
      | inr k ↦
          let a : get_or origins c 0 ≡ get_or origins' d 0 = match_origin opened opened' m in
          let b : get_or origins e 0 ≡ get_or origins' f 0 = match_origin opened opened' n in
          absurd (elim (order c e h e_in) [
            | inl below ↦ elim (order' f d k (match_below opened opened' m)) [
              | inl below' ↦ apart (get_or origins c 0) (get_or origins e 0) (get_or origins' d 0)
                  (get_or origins' f 0) a b below (inl below')
              | inr same' ↦ apart (get_or origins c 0) (get_or origins e 0) (get_or origins' d 0)
                  (get_or origins' f 0) a b below (inr same'.0)
            ]
            | inr same ↦ elim (order' f d k (match_below opened opened' m)) [
              | inl below' ↦ apart (get_or origins' f 0) (get_or origins' d 0) (get_or origins e 0) (get_or origins c 0)
                  (sym b) (sym a) below' (inr same.0)
              | inr same' ↦
                  let g = same.1 in
                  let g' = same'.1 in
                  let u : g.0 < g'.0 = g.3 g'.0 g'.1 (match_face opened' opened g'.0 (turned n) g'.1 g'.2) in
                  let w : g'.0 < g.0 = g'.3 g.0 g.1 (match_face opened opened' g.0 m g.1 g.2) in
                  both g.0 g'.0 u w
            ]
          ])
    ]
  ]
    where
      apart : (c e d f : ℕ) → c ≡ d → e ≡ f → c < e → (f < d) ⊎ (f ≡ d) → ⊥
      apart c e d f a b h (inl k) = omega arith
      apart c e d f a b h (inr k) = omega arith

      both : (g h : ℕ) → g < h → h < g → ⊥
      both g h u w = omega arith

  module _ {origins : List ℕ} {faces : List (List ℕ)} {origins' : List ℕ} {faces' : List (List ℕ)}
      (opened : IsOpenedAlong mesh uncut origins faces) (opened' : IsOpenedAlong mesh uncut origins' faces')
      (order : AreInOrder mesh origins faces) (order' : AreInOrder mesh origins' faces') where
    same_number : {c d : ℕ} → Match faces faces' c d → c ≡ d
    same_number {c} {d} m =
        let a : c ≤ d = no_lower (length origins) (Match faces faces') (match_some opened opened')
        (rising opened opened' order order') c d (match_below opened' opened (turned m)) m in
        let b : d ≤ c = no_lower (length origins') (Match faces' faces) (match_some opened' opened)
        (rising opened' opened order' order) d c (match_below opened opened' m) (turned m) in
        omega arith

    same_corner : (x : ℕ × ℕ) → IsPlace mesh x → corner_of faces x ≡ corner_of faces' x
    same_corner x h = same_number (record { place = x; is_place = h; one = refl; other = refl })

    pub same_origins : origins ≡ origins'
    same_origins = same_lists origins origins'
        (numbers_same (copies_counted sides opened) (copies_counted sides opened')) (λ i d h.
        let m = match_some opened opened' i h in
        let k = match_below opened opened' m.1 in
        get_or_default origins i d 0 h ∙ match_origin opened opened' m.1 ∙ ap (λ j. get_or origins' j 0)
        (sym (same_number m.1))
        ∙ get_or_default origins' i 0 d (subst (λ j. j < length origins') (sym (same_number m.1)) k))

    pub same_faces : faces ≡ faces'
    same_faces = same_lists faces faces' (opened.same_faces ∙ sym opened'.same_faces) (λ f d h.
        let f_below : f < face_count mesh = subst (λ n. f < n) opened.same_faces h in
        get_or_default faces f d [] h
        ∙ same_lists (get_or faces f []) (get_or faces' f [])
        (same_length sides opened f_below ∙ sym (same_length sides opened' f_below)) (λ i e i_in.
        let i_below : i < length (face_at mesh f) = subst (λ n. i < n) (same_length sides opened f_below) i_in in
        get_or_default (get_or faces f []) i e 0 i_in ∙ same_corner (f, i) (f_below, i_below)
        ∙ get_or_default (get_or faces' f []) i 0 e
        (subst (λ n. i < n) (sym (same_length sides opened' f_below)) i_below))
        ∙ get_or_default faces' f [] d (subst (λ n. f < n) (sym opened'.same_faces) f_below))

pub openings_in_order_are_one : OpeningsInOrderAreOne
openings_in_order_are_one mesh uncut origins origins' faces faces' surface opened opened' order order' =
    let a = along_list uncut opened in
    let b = along_list uncut opened' in
    (same_origins surface uncut a b order order', same_faces surface uncut a b order order')
