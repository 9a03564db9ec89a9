-- The faces of a pair are those of its sides.
use Rattle.surf_surfaces.proofs.Common.{◌≡◌, ℕ, suc, ◌+◌, ◌<◌, ◌≤◌, false, cond, List, [], ◌∷◌, ◌++◌, length, get_or, map, replicate, refl, sym, ap, ◌∙◌, arith, inl, inr, All, map-append, length-map, length-append, length-replicate, sum_by-cons, Mesh, IsMesh, IsFace, sides, pair_of, pair_eq, among, cases_Bool, or_parts, All-head, All-tail, has_side, places_from, faces_with, side_pairs, pair_at, owners, sides_with}
use Rattle.std.specs.List.{filter, flat_map, range_with_len, sum_by}
use Rattle.surf_surfaces.proofs.meshes.PairLaws.{pair_eq-true}
use Rattle.surf_surfaces.proofs.meshes.FaceLaws.{Once, face_once, has_side-among}
use Rattle.surf_surfaces.proofs.meshes.CountLaws.{length-sides}
use Rattle.surf_soup.proofs.EdgeTables.{length-side_pairs}

-- the numbers that stand where the pair stands
pick : ℕ × ℕ → List (ℕ × ℕ) → List ℕ → List ℕ
pick p [] os = []
pick p (q ∷ ps) [] = []
pick p (q ∷ ps) (o ∷ os) = cond (pair_eq p q) (o ∷ pick p ps os) (pick p ps os)

pick_is : (p : ℕ × ℕ) (ps : List (ℕ × ℕ)) (os : List ℕ) (a : ℕ) (P : ℕ → ℕ × ℕ) (O : ℕ → ℕ) → length ps ≤ length os →
    ((i : ℕ) → i < length ps → P (a + i) ≡ get_or ps i (0, 0)) → ((i : ℕ) → i < length ps → O (a + i) ≡ get_or os i 0) →
    map O (filter (λ s. pair_eq p (P s)) (range_with_len a (length ps))) ≡ pick p ps os
unfolding pick
pick_is p [] os a P O room f g = refl
pick_is p (q ∷ ps) [] a P O room f g = absurd (omega arith)
pick_is p (q ∷ ps) (o ∷ os) a P O room f g =
    let z : a + 0 ≡ a = omega arith in
    let here : P a ≡ q = ap P (sym z) ∙ f 0 (omega arith) in
    let owner : O a ≡ o = ap O (sym z) ∙ g 0 (omega arith) in
    let later = pick_is p ps os (a + 1) P O (omega arith) (λ i lt. let e : a + 1 + i ≡ a + suc i = omega arith in ap P e
    ∙ f (suc i) (omega arith)) (λ i lt. let e : a + 1 + i ≡ a + suc i = omega arith in ap O e
    ∙ g (suc i) (omega arith)) in
    elim (cases_Bool (pair_eq p q)) [
      | inl e ↦ rw (here, e, owner, later) refl
      | inr e ↦ rw (here, e) later
    ]

pick-append : (p : ℕ × ℕ) (ps qs : List (ℕ × ℕ)) (n : ℕ) (os : List ℕ) →
    pick p (ps ++ qs) (replicate (length ps) n ++ os) ≡ pick p ps (replicate (length ps) n) ++ pick p qs os
unfolding pick
pick-append p [] qs n os = refl
pick-append p (x ∷ ps) qs n os =
    elim (cases_Bool (pair_eq p x))
    [ inl e ↦ rw (e, pick-append p ps qs n os) refl | inr e ↦ rw (e, pick-append p ps qs n os) refl ]

pick_none : (p : ℕ × ℕ) (ps : List (ℕ × ℕ)) (n : ℕ) → among p ps ≡ false → pick p ps (replicate (length ps) n) ≡ []
unfolding pick
pick_none p [] n h = refl
pick_none p (x ∷ ps) n h =
    let parts = or_parts (pair_eq p x) (among p ps) h in
    rw parts.0 (pick_none p ps n parts.1)

pick_once : (p : ℕ × ℕ) (ps : List (ℕ × ℕ)) (n : ℕ) → Once ps →
    pick p ps (replicate (length ps) n) ≡ cond (among p ps) (n ∷ []) []
unfolding pick
pick_once p [] n h = refl
pick_once p (x ∷ ps) n h = elim (cases_Bool (pair_eq p x)) [
  | inl e ↦ rw e (ap (λ r. n ∷ r) (pick_none p ps n (ap (λ q. among q ps) (pair_eq-true p x e) ∙ h.0)))
  | inr e ↦ rw e (pick_once p ps n h.1)
]

pick_faces : (v : ℕ) (p : ℕ × ℕ) (n : ℕ) (faces : List (List ℕ)) → All (IsFace v) faces →
    pick p (side_pairs faces) (owners n faces) ≡ places_from n p faces
unfolding pick
pick_faces v p n [] h = refl
pick_faces v p n (face ∷ rest) h =
    let own = map pair_of (sides face) in
    let size : length face ≡ length own = sym (length-map (sides face) pair_of ∙ length-sides face) in
    let once = pick_once p own n (face_once v face (All-head (IsFace v) face rest h)) in
    let later = pick_faces v p (n + 1) rest (All-tail (IsFace v) face rest h) in
    ap (λ ps. pick p ps (replicate (length face) n ++ owners (n + 1) rest))
    (map-append pair_of (sides face) (flat_map sides rest))
    ∙ ap (λ m. pick p (own ++ side_pairs rest) (replicate m n ++ owners (n + 1) rest)) size
    ∙ pick-append p own (side_pairs rest) n (owners (n + 1) rest)
    ∙ ap (λ r. r ++ pick p (side_pairs rest) (owners (n + 1) rest)) once
    ∙ ap (λ r. cond (among p own) (n ∷ []) [] ++ r) later
    ∙ ap (λ b. cond b (n ∷ []) [] ++ places_from (n + 1) p rest) (sym (has_side-among p face))
    ∙ elim (cases_Bool (has_side p face)) [ inl e ↦ rw e refl | inr e ↦ rw e refl ]

pub length-owners : (n : ℕ) (faces : List (List ℕ)) → length (owners n faces) ≡ sum_by length faces
length-owners n [] = refl
length-owners n (face ∷ rest) =
    omega (
      arith,
      length-append (replicate (length face) n) (owners (n + 1) rest),
      length-replicate (length face) n,
      length-owners (n + 1) rest,
      sum_by-cons {X = List ℕ} length face rest,
    )

pub faces_with-sides : (mesh : Mesh) → IsMesh mesh → (p : ℕ × ℕ) →
    faces_with mesh p ≡ map (λ s. get_or (owners 0 mesh.faces) s 0) (sides_with mesh p)
faces_with-sides mesh is_mesh p =
    let n = length-side_pairs mesh in
    let m = length-owners 0 mesh.faces in
    let os = owners 0 mesh.faces in
    let room : length (side_pairs mesh.faces) ≤ length os = omega arith in
    sym (pick_faces mesh.vertices p 0 mesh.faces is_mesh)
    ∙ sym (pick_is p (side_pairs mesh.faces) os 0 (pair_at mesh) (λ s. get_or os s 0) room (λ i lt. let e : 0 + i ≡ i =
    omega arith in ap (pair_at mesh) e) (λ i lt. let e : 0 + i ≡ i = omega arith in ap (λ s. get_or os s 0) e))
    ∙ ap (λ k. map (λ s. get_or os s 0) (filter (λ s. pair_eq p (pair_at mesh s)) (range_with_len 0 k))) n
