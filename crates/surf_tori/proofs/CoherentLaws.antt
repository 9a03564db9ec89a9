-- Each edge of a coherently oriented mesh has two faces.
use Rattle.surf_surfaces.proofs.Common.{◌≡◌, ◌≢◌, ℕ, ◌<◌, true, false, eqb, List, [], ◌∷◌, ◌⊎◌, length, get_or, refl, sym, ap, ◌∙◌, arith, inl, inr, subst, AllPairs, list_any, eqb-true, eq-eqb, cases_order, lt-ltb, or_cases, true≢false, IsFace, sides, pair, pair_of, pair_eq, edges, among, face_at, ends, has_side, runs, faces_with}
use Rattle.surf_surfaces.proofs.meshes.PairLaws.{pair_eq-true, pair_eq-same, pair_eq-self, pair_same}
use Rattle.surf_surfaces.proofs.meshes.EdgeLaws.{list_any_at, list_any_from, among-edges}
use Rattle.surf_surfaces.proofs.meshes.FaceLaws.{pair_comm}
use Rattle.surf_surfaces.proofs.meshes.SurfaceLaws.{edge_below, faces_with-has, faces_with-rise, has_side-face}
use Rattle.surf_surfaces.proofs.LawProofs.{sides_differ}
use Rattle.surf_surfaces.proofs.meshes.RunLaws.{runs_side, one_way, some_way}
use Rattle.surf_tori.specs.Coherent.{Runs, CoherentEdgesHaveTwoFaces}

-- a list of rising numbers that are two different ones
two_members : (xs : List ℕ) (f g : ℕ) → f ≢ g → AllPairs (λ x y. x < y) xs → list_any (eqb f) xs ≡ true →
    list_any (eqb g) xs ≡ true → ((h : ℕ) → list_any (eqb h) xs ≡ true → (h ≡ f) ⊎ (h ≡ g)) → length xs ≡ 2
two_members [] f g apart rise a b only = absurd (true≢false (sym a))
two_members (x ∷ []) f g apart rise a b only = absurd (apart (is_x f a ∙ sym (is_x g b)))
  where
    is_x : (h : ℕ) → list_any (eqb h) (x ∷ []) ≡ true → h ≡ x
    is_x h e = elim (or_cases (eqb h x) false e) [ inl y ↦ eqb-true h x y | inr n ↦ absurd (true≢false (sym n)) ]
two_members (x ∷ y ∷ []) f g apart rise a b only = refl
two_members (x ∷ y ∷ z ∷ rest) f g apart rise a b only =
    let xy : x < y = rise 0 1 0 (omega arith) (omega arith) in
    let yz : y < z = rise 1 2 0 (omega arith) (omega arith) in
    let at : (k : ℕ) → k < length (x ∷ y ∷ z ∷ rest) → (get_or (x ∷ y ∷ z ∷ rest) k 0 ≡ f)
    ⊎ (get_or (x ∷ y ∷ z ∷ rest) k 0 ≡ g) = λ k in'.
    let h = get_or (x ∷ y ∷ z ∷ rest) k 0 in
    only h (list_any_from (eqb h) (x ∷ y ∷ z ∷ rest) 0 k in' (eq-eqb h h refl)) in
    let first : (x ≡ f) ⊎ (x ≡ g) = at 0 (omega arith) in
    let second : (y ≡ f) ⊎ (y ≡ g) = at 1 (omega arith) in
    let third : (z ≡ f) ⊎ (z ≡ g) = at 2 (omega arith) in
    absurd (three x y z f g xy yz first second third)
  where
    three : (x y z f g : ℕ) → x < y → y < z → (x ≡ f) ⊎ (x ≡ g) → (y ≡ f) ⊎ (y ≡ g) → (z ≡ f) ⊎ (z ≡ g) → ⊥
    three x y z f g xy yz p q r = elim p [
      | inl a ↦ elim q [
        | inl b ↦ omega arith
        | inr b ↦ elim r [ inl c ↦ omega arith | inr c ↦ omega arith ]
      ]
      | inr a ↦ elim q [
        | inl b ↦ elim r [ inl c ↦ omega arith | inr c ↦ omega arith ]
        | inr b ↦ omega arith
      ]
    ]

-- the faces that run an edge one way and the other are its two
pub coherent_edges_have_two_faces : CoherentEdgesHaveTwoFaces
coherent_edges_have_two_faces mesh c e in' =
    let p = ends mesh e in
    let edge : among p (edges mesh) ≡ true = list_any_from (pair_eq p) (edges mesh) (0, 0) e in' (pair_eq-self p) in
    let lt : p.0 < p.1 = (edge_below mesh c.is_mesh p edge).0 in
    let as_pair : pair p.0 p.1 ≡ p = rw (lt-ltb p.0 p.1 lt) in
    let some = list_any_at (has_side p) mesh.faces [] (sym (among-edges mesh p) ∙ edge) in
    let way : (h : ℕ) → has_side p (face_at mesh h) ≡ true → Runs mesh h p ⊎ Runs mesh h (p.1, p.0) = λ h has.
    some_way p.0 p.1 (face_at mesh h) (ap (λ q. has_side q (face_at mesh h)) as_pair ∙ has) in
    elim (way some.0 some.2) [
      | inl there ↦ let r = c.back some.0 p there in counted some.0 r.0 there r.1 way lt as_pair
      | inr here ↦ let r = c.back some.0 (p.1, p.0) here in counted r.0 some.0 r.1 here way lt as_pair
    ]
  where
    counted : (f g : ℕ) → Runs mesh f (ends mesh e) → Runs mesh g ((ends mesh e).1, (ends mesh e).0) →
        ((h : ℕ) → has_side (ends mesh e) (face_at mesh h) ≡ true →
        Runs mesh h (ends mesh e) ⊎ Runs mesh h ((ends mesh e).1, (ends mesh e).0)) →
        (ends mesh e).0 < (ends mesh e).1 → pair (ends mesh e).0 (ends mesh e).1 ≡ ends mesh e →
        length (faces_with mesh (ends mesh e)) ≡ 2
    counted f g there here way lt as_pair =
        let p = ends mesh e in
        let has_f : has_side p (face_at mesh f) ≡ true =
        ap (λ q. has_side q (face_at mesh f)) (sym as_pair) ∙ runs_side p (face_at mesh f) there in
        let has_g : has_side p (face_at mesh g) ≡ true =
        ap (λ q. has_side q (face_at mesh g)) (sym (pair_comm p.1 p.0 ∙ as_pair))
        ∙ runs_side (p.1, p.0) (face_at mesh g) here in
        let apart : f ≢ g = λ same.
        one_way mesh.vertices (face_at mesh f) (c.is_mesh f [] (has_side-face mesh p f has_f)) p.0 p.1
        (λ q. omega arith) there (subst (λ h. Runs mesh h (p.1, p.0)) (sym same) here) in
        two_members (faces_with mesh p) f g apart (faces_with-rise mesh p) (faces_with-has mesh p f ∙ has_f)
        (faces_with-has mesh p g ∙ has_g)
        (λ h listed. elim (way h (sym (faces_with-has mesh p h) ∙ listed)) [
          | inl x ↦ inl (c.once h f p x there)
          | inr x ↦ inr (c.once h g (p.1, p.0) x here)
        ])
