-- Laws of counts: each side of a face is one edge, each corner is on two sides, and the faces' sizes add up to twice
-- the edges.
use Rattle.surf_surfaces.proofs.Common.{◌≡◌, ℕ, zero, suc, ◌+◌, ◌*◌, ◌<◌, Bool, true, false, ◌&&◌, ◌||◌, cond, eqb, List, [], ◌∷◌, ◌++◌, length, get_or, map, refl, sym, ap, ◌∙◌, arith, inl, inr, Contains, ◌≢◌, eq-eqb, ne_eqb, eqb-true, cases_Bool, length-append, get_or_default, All-from_recursion, recursion_from_All, All-from_get_or, Mesh, IsMesh, IsFace, steps_from, sides, pair_of, pair_eq, among, edges, place_of, AllByRecursion, count_by, sum_by, sum_by-cons, sum_by-append, sum_below, count_below, and-true, and_comm, face_count, edge_count, face_at, ends, has_side, touches, places_from, faces_of, HasCorner, IsSurface}
use Rattle.surf_z2.proofs.Sums.{sum_below-same, sum_below-add, sum_below-const, sum_below-swap, sum_below-double, count_below-one}
use Rattle.surf_surfaces.proofs.meshes.PairLaws.{pair_eq-true}
use Rattle.surf_surfaces.proofs.meshes.EdgeLaws.{ends-eq, place_of-among}
use Rattle.surf_surfaces.proofs.meshes.FaceLaws.{Distinct, Once, distinct_from_AllPairs, face_once, has_side-among, touches-pair_of, IsStepBelow, face_steps}
use Rattle.surf_surfaces.proofs.meshes.SurfaceLaws.{sides_are_edges, two_faces_of}

pub count_cons : {X : Type 0} (test : X → Bool) (x : X) (xs : List X) →
    count_by test (x ∷ xs) ≡ cond (test x) 1 0 + count_by test xs
count_cons test x xs = sum_by-cons (λ y. cond (test y) 1 0) x xs

-- pairs that differ and are edges: as many of them pass as of their edges
pub count_below-among : (mesh : Mesh) (g : ℕ × ℕ → Bool) (xs : List (ℕ × ℕ)) → Once xs →
    AllByRecursion (λ p. among p (edges mesh) ≡ true) xs →
    count_below (edge_count mesh) (λ e. among (ends mesh e) xs && g (ends mesh e)) ≡ count_by g xs
count_below-among mesh g [] once h = sum_below-const (edge_count mesh) 0 ∙ omega arith
count_below-among mesh g (x ∷ xs) once h =
    let E = edge_count mesh in
    let at = place_of x (edges mesh) in
    let later : ℕ → ℕ = λ e. cond (among (ends mesh e) xs && g (ends mesh e)) 1 0 in
    let apart : (e : ℕ) → e < E → cond (among (ends mesh e) (x ∷ xs) && g (ends mesh e)) 1 0
    ≡ cond (eqb e at && g x) 1 0 + later e = λ e in'.
    elim (cases_Bool (pair_eq (ends mesh e) x)) [
      | inl same ↦
          let is_x : ends mesh e ≡ x = pair_eq-true (ends mesh e) x same in
          let absent : among (ends mesh e) xs ≡ false = ap (λ p. among p xs) is_x ∙ once.0 in
          let number : eqb e at ≡ true = sym (ends-eq mesh x e h.0 in') ∙ same in
          rw (same, absent, number, is_x) (more_zero (cond (g x) 1 0))
      | inr other ↦
          let number : eqb e at ≡ false = sym (ends-eq mesh x e h.0 in') ∙ other in
          rw (other, number) (zero_more (later e))
    ] in
    sum_below-same E (λ e. cond (among (ends mesh e) (x ∷ xs) && g (ends mesh e)) 1 0)
    (λ e. cond (eqb e at && g x) 1 0 + later e) apart
    ∙ sum_below-add E (λ e. cond (eqb e at && g x) 1 0) later
    ∙ omega (
      arith,
      count_below-one E at (g x) (place_of-among x (edges mesh) (0, 0) h.0).0,
      count_below-among mesh g xs once.1 h.1,
      count_cons g x xs,
    )
  where
    zero_more : (n : ℕ) → n ≡ 0 + n
    zero_more n = omega arith

    more_zero : (n : ℕ) → n ≡ n + 0
    more_zero n = omega arith

length-steps_from : (u : ℕ) (xs : List ℕ) → length (steps_from u xs) ≡ length xs
length-steps_from u [] = refl
length-steps_from u (w ∷ xs) = ap suc (length-steps_from w xs)

pub length-sides : (face : List ℕ) → length (sides face) ≡ length face
length-sides [] = refl
length-sides (u ∷ rest) = length-steps_from u (rest ++ u ∷ []) ∙ length-append rest (u ∷ []) ∙ omega arith

among_map : (mesh : Mesh) (ss : List (ℕ × ℕ)) → AllByRecursion (λ s. among (pair_of s) (edges mesh) ≡ true) ss →
    AllByRecursion (λ p. among p (edges mesh) ≡ true) (map pair_of ss)
among_map mesh [] h = tt
among_map mesh (s ∷ ss) h = (h.0, among_map mesh ss h.1)

count_by-map : {X Y : Type 0} (test : Y → Bool) (f : X → Y) (xs : List X) →
    count_by test (map f xs) ≡ count_by (λ x. test (f x)) xs
count_by-map test f [] = refl
count_by-map test f (x ∷ xs) = count_cons test (f x) (map f xs) ∙ ap (λ n. cond (test (f x)) 1 0 + n)
    (count_by-map test f xs) ∙ sym (count_cons (λ y. test (f y)) x xs)

count_by-same : {X : Type 0} (p q : X → Bool) (xs : List X) → ((x : X) → p x ≡ q x) → count_by p xs ≡ count_by q xs
count_by-same p q [] h = refl
count_by-same p q (x ∷ xs) h = count_cons p x xs ∙ ap (λ b. cond b 1 0 + count_by p xs) (h x) ∙ ap
    (λ n. cond (q x) 1 0 + n) (count_by-same p q xs h) ∙ sym (count_cons q x xs)

-- as many of a face's edges pass as of its sides
pub count_below-face : (mesh : Mesh) → IsMesh mesh → (g : ℕ × ℕ → Bool) (f : ℕ) → f < face_count mesh →
    count_below (edge_count mesh) (λ e. has_side (ends mesh e) (face_at mesh f) && g (ends mesh e))
    ≡ count_by (λ s. g (pair_of s)) (sides (face_at mesh f))
count_below-face mesh m g f in' =
    let face = face_at mesh f in
    sum_below-same (edge_count mesh) (λ e. cond (has_side (ends mesh e) face && g (ends mesh e)) 1 0)
    (λ e. cond (among (ends mesh e) (map pair_of (sides face)) && g (ends mesh e)) 1 0)
    (λ e h. ap (λ b. cond (b && g (ends mesh e)) 1 0) (has_side-among (ends mesh e) face))
    ∙ count_below-among mesh g (map pair_of (sides face)) (face_once mesh.vertices face (m f [] in'))
    (among_map mesh (sides face) (sides_are_edges mesh f in'))
    ∙ count_by-map g pair_of (sides face)

count_by-all : {X : Type 0} (xs : List X) → count_by (λ x. true) xs ≡ length xs
count_by-all [] = refl
count_by-all (x ∷ xs) = count_cons (λ y. true) x xs ∙ omega (arith, count_by-all xs)

-- a face has as many edges as corners
pub face_edge_count : (mesh : Mesh) → IsMesh mesh → (f : ℕ) → f < face_count mesh →
    count_below (edge_count mesh) (λ e. has_side (ends mesh e) (face_at mesh f)) ≡ length (face_at mesh f)
face_edge_count mesh m f in' =
    let face = face_at mesh f in
    sum_below-same (edge_count mesh) (λ e. cond (has_side (ends mesh e) face) 1 0)
    (λ e. cond (has_side (ends mesh e) face && true) 1 0)
    (λ e h. ap (λ b. cond b 1 0) (sym (and-true (has_side (ends mesh e) face))))
    ∙ count_below-face mesh m (λ p. true) f in'
    ∙ count_by-all (sides face)
    ∙ length-sides face

length-places_from : (n : ℕ) (p : ℕ × ℕ) (faces : List (List ℕ)) →
    length (places_from n p faces) ≡ count_by (has_side p) faces
length-places_from n p [] = refl
length-places_from n p (face ∷ rest) =
    let later = length-places_from (n + 1) p rest in
    let whole = count_cons (has_side p) face rest in
    elim (cases_Bool (has_side p face)) [
      | inl e ↦
          let here : ◌≡◌ {A = ℕ} (cond (has_side p face) 1 0) 1 = rw e in
          let listed : length (places_from n p (face ∷ rest)) ≡ suc (length (places_from (n + 1) p rest)) = rw e in
          omega (arith, later, whole, here, listed)
      | inr e ↦
          let here : ◌≡◌ {A = ℕ} (cond (has_side p face) 1 0) 0 = rw e in
          let listed : length (places_from n p (face ∷ rest)) ≡ length (places_from (n + 1) p rest) = rw e in
          omega (arith, later, whole, here, listed)
    ]

-- the sizes of faces are the numbers of faces with each edge
sizes : (mesh : Mesh) (faces : List (List ℕ)) →
    AllByRecursion (λ face. sum_below (edge_count mesh) (λ e. cond (has_side (ends mesh e) face) 1 0) ≡ length face)
    faces →
    sum_by length faces ≡ sum_below (edge_count mesh) (λ e. count_by (has_side (ends mesh e)) faces)
sizes mesh [] h = sym (sum_below-const (edge_count mesh) 0 ∙ omega arith)
sizes mesh (face ∷ rest) h =
    sum_by-cons length face rest
    ∙ ap (λ n. n + sum_by length rest) (sym h.0)
    ∙ ap (λ n. sum_below (edge_count mesh) (λ e. cond (has_side (ends mesh e) face) 1 0) + n) (sizes mesh rest h.1)
    ∙ sym (sum_below-add (edge_count mesh) (λ e. cond (has_side (ends mesh e) face) 1 0)
    (λ e. count_by (has_side (ends mesh e)) rest))
    ∙ sum_below-same (edge_count mesh)
    (λ e. cond (has_side (ends mesh e) face) 1 0 + count_by (has_side (ends mesh e)) rest)
    (λ e. count_by (has_side (ends mesh e)) (face ∷ rest))
    (λ e in'. sym (sum_by-cons (λ f. cond (has_side (ends mesh e) f) 1 0) face rest))

pub sizes_twice : (mesh : Mesh) → IsSurface mesh → sum_by length mesh.faces ≡ 2 * edge_count mesh
sizes_twice mesh surface =
    sizes mesh mesh.faces
    (recursion_from_All (λ face. sum_below (edge_count mesh) (λ e. cond (has_side (ends mesh e) face) 1 0)
    ≡ length face) mesh.faces
    (All-from_get_or (λ face. sum_below (edge_count mesh) (λ e. cond (has_side (ends mesh e) face) 1 0) ≡ length face)
    mesh.faces [] (face_edge_count mesh surface.is_mesh)))
    ∙ sum_below-same (edge_count mesh) (λ e. count_by (has_side (ends mesh e)) mesh.faces) (λ e. 2)
    (λ e in'. sym (length-places_from 0 (ends mesh e) mesh.faces) ∙ surface.two_faces e in')
    ∙ sum_below-const (edge_count mesh) 2
    ∙ omega arith

-- the corner is on two sides
count_first : (v u z : ℕ) (xs : List ℕ) → count_by (λ s. eqb s.0 v) (steps_from u (xs ++ z ∷ []))
    ≡ count_by (λ w. eqb w v) (u ∷ xs)
count_first v u z [] = count_cons (λ (s : ℕ × ℕ). eqb s.0 v) (u, z) [] ∙ sym (count_cons (λ w. eqb w v) u [])
count_first v u z (w ∷ xs) =
    count_cons (λ (s : ℕ × ℕ). eqb s.0 v) (u, w) (steps_from w (xs ++ z ∷ [])) ∙ ap (λ n. cond (eqb u v) 1 0 + n)
    (count_first v w z xs) ∙ sym (count_cons (λ t. eqb t v) u (w ∷ xs))

count_second : (v u : ℕ) (xs : List ℕ) → count_by (λ s. eqb s.1 v) (steps_from u xs) ≡ count_by (λ w. eqb w v) xs
count_second v u [] = refl
count_second v u (w ∷ xs) =
    count_cons (λ (s : ℕ × ℕ). eqb s.1 v) (u, w) (steps_from w xs) ∙ ap (λ n. cond (eqb w v) 1 0 + n)
    (count_second v w xs) ∙ sym (count_cons (λ t. eqb t v) w xs)

count_touches : (v n : ℕ) (ss : List (ℕ × ℕ)) → AllByRecursion (IsStepBelow n) ss →
    count_by (touches v) ss ≡ count_by (λ s. eqb s.0 v) ss + count_by (λ s. eqb s.1 v) ss
count_touches v n [] h = refl
count_touches v n (s ∷ ss) h =
    let one = count_cons (touches v) s ss in
    let first = count_cons (λ (t : ℕ × ℕ). eqb t.0 v) s ss in
    let second = count_cons (λ (t : ℕ × ℕ). eqb t.1 v) s ss in
    let here : cond (touches v s) 1 0 ≡ cond (eqb s.0 v) 1 0 + cond (eqb s.1 v) 1 0 =
    or_counts (eqb s.0 v) (eqb s.1 v) (λ e f. h.0.2 (eqb-true s.0 v e ∙ sym (eqb-true s.1 v f))) in
    omega (arith, one, first, second, here, count_touches v n ss h.1)
  where
    or_counts : (a b : Bool) → (a ≡ true → b ≡ true → ⊥) → cond (a || b) 1 0 ≡ cond a 1 0 + cond b 1 0
    or_counts true true h = absurd (h refl refl)
    or_counts true false h = refl
    or_counts false true h = refl
    or_counts false false h = refl

count_none : (v : ℕ) (xs : List ℕ) → AllByRecursion (λ w. v ≢ w) xs → count_by (λ w. eqb w v) xs ≡ 0
count_none v [] h = refl
count_none v (x ∷ xs) h =
    let apart : eqb x v ≡ false = ne_eqb x v (λ e. h.0 (sym e)) in
    count_cons (λ w. eqb w v) x xs ∙ rw apart (omega (arith, count_none v xs h.1))

count_distinct : (v : ℕ) (xs : List ℕ) (k : ℕ) → Distinct xs → k < length xs → get_or xs k v ≡ v →
    count_by (λ w. eqb w v) xs ≡ 1
count_distinct v [] k h in' e = absurd (omega arith)
count_distinct v (x ∷ xs) zero h in' e =
    let same : eqb x v ≡ true = eq-eqb x v e in
    let rest : count_by (λ w. eqb w v) xs ≡ 0 = count_none v xs (rw e at h.0) in
    count_cons (λ w. eqb w v) x xs ∙ rw (same, rest)
count_distinct v (x ∷ xs) (suc k) h in' e =
    let apart : eqb x v ≡ false =
    ne_eqb x v (λ same. All-from_recursion (λ w. x ≢ w) xs h.0 k v (omega arith) (same ∙ sym e)) in
    count_cons (λ w. eqb w v) x xs ∙ rw apart (omega (arith, count_distinct v xs k h.1 (omega arith) e))

-- a number is on twice as many sides as corners
pub sides_at : (n v : ℕ) (face : List ℕ) → IsFace n face → count_by (touches v) (sides face)
    ≡ 2 * count_by (λ w. eqb w v) face
sides_at n v [] h = refl
sides_at n v (u ∷ rest) h =
    let split = count_touches v n (sides (u ∷ rest)) (face_steps n (u ∷ rest) h) in
    let first = count_first v u u rest in
    let second = count_second v u (rest ++ u ∷ []) in
    let pushed = sum_by-append (λ w. cond (eqb w v) 1 0) rest (u ∷ []) in
    let whole = count_cons (λ w. eqb w v) u rest in
    let single = count_cons (λ w. eqb w v) u [] in
    omega (arith, split, first, second, pushed, whole, single)

pub two_sides_at : (n v : ℕ) (face : List ℕ) → IsFace n face → Contains face v → count_by (touches v) (sides face) ≡ 2
two_sides_at n v face h c =
    omega (arith, sides_at n v face h, count_distinct v face c.0 (distinct_from_AllPairs face h.distinct) c.1 c.2)

-- the edges of a face at a vertex, and of its sides there
edges_at : (mesh : Mesh) → IsMesh mesh → (v f : ℕ) → f < face_count mesh →
    count_below (edge_count mesh) (λ e. has_side (ends mesh e) (face_at mesh f) && touches v (ends mesh e))
    ≡ 2 * count_by (λ w. eqb w v) (face_at mesh f)
edges_at mesh m v f in' =
    count_below-face mesh m (touches v) f in'
    ∙ count_by-same (λ s. touches v (pair_of s)) (touches v) (sides (face_at mesh f)) (touches-pair_of v)
    ∙ sides_at mesh.vertices v (face_at mesh f) (m f [] in')

pub two_edges_at : (mesh : Mesh) → IsMesh mesh → (v f : ℕ) → HasCorner mesh f v →
    count_below (edge_count mesh) (λ e. has_side (ends mesh e) (face_at mesh f) && touches v (ends mesh e)) ≡ 2
two_edges_at mesh m v f c =
    let face = face_at mesh f in
    let is_face : IsFace mesh.vertices face = m f [] c.0 in
    omega (
      arith,
      edges_at mesh m v f c.0,
      count_distinct v face c.1.0 (distinct_from_AllPairs face is_face.distinct)
          c.1.1 c.1.2,
    )

pub no_edge_at : (mesh : Mesh) → IsMesh mesh → (v f : ℕ) → f < face_count mesh → (Contains (face_at mesh f) v → ⊥) →
    count_below (edge_count mesh) (λ e. has_side (ends mesh e) (face_at mesh f) && touches v (ends mesh e)) ≡ 0
no_edge_at mesh m v f in' absent =
    let face = face_at mesh f in
    let none = count_none v face
    (recursion_from_All (λ w. v ≢ w) face (λ k d at e. absent (k, at, get_or_default face k v d at ∙ sym e))) in
    omega (arith, edges_at mesh m v f in', none)

count_and : (b : Bool) (n : ℕ) (test : ℕ → Bool) → count_below n (λ k. b && test k) ≡ cond b (count_below n test) 0
count_and true n test = refl
count_and false n test = sum_below-const n 0 ∙ omega arith

count_face_of : (mesh : Mesh) → IsSurface mesh → (e : ℕ) → e < edge_count mesh →
    count_below (face_count mesh) (λ f. has_side (ends mesh e) (face_at mesh f)) ≡ 2
count_face_of mesh surface e in' =
    let two = two_faces_of mesh surface e in' in
    let a = (faces_of mesh e).0 in
    let b = (faces_of mesh e).1 in
    let F = face_count mesh in
    let lt : a < b = two.lesser_first in
    let second : b < F = two.second_is_face in
    let first : a < F = omega arith in
    let split : (f : ℕ) → f < F → cond (has_side (ends mesh e) (face_at mesh f)) 1 0 ≡ cond (eqb f a && true) 1 0 + cond
    (eqb f b && true) 1 0 = λ f h.
    ap (λ t. cond t 1 0) (two.no_other f) ∙ or_counts (eqb f a) (eqb f b) (λ x y. let p : f ≡ a = eqb-true f a x in
    let q : f ≡ b = eqb-true f b y in omega arith) in
    sum_below-same F (λ f. cond (has_side (ends mesh e) (face_at mesh f)) 1 0)
    (λ f. cond (eqb f a && true) 1 0 + cond (eqb f b && true) 1 0) split
    ∙ sum_below-add F (λ f. cond (eqb f a && true) 1 0) (λ f. cond (eqb f b && true) 1 0)
    ∙ omega (arith, count_below-one F a true first, count_below-one F b true second)
  where
    or_counts : (a b : Bool) → (a ≡ true → b ≡ true → ⊥) →
        cond (a || b) 1 0 ≡ cond (a && true) 1 0 + cond (b && true) 1 0
    or_counts true true h = absurd (h refl refl)
    or_counts true false h = refl
    or_counts false true h = refl
    or_counts false false h = refl

-- as many edges as corners at each vertex
pub degree : (mesh : Mesh) → IsSurface mesh → (v : ℕ) → count_below (edge_count mesh) (λ e. touches v (ends mesh e))
    ≡ sum_below (face_count mesh) (λ f. count_by (λ w. eqb w v) (face_at mesh f))
degree mesh surface v =
    let E = edge_count mesh in
    let F = face_count mesh in
    let at : ℕ → ℕ → ℕ = λ e f. cond (touches v (ends mesh e) && has_side (ends mesh e) (face_at mesh f)) 1 0 in
    let by_edge : (e : ℕ) → e < E → 2 * cond (touches v (ends mesh e)) 1 0 ≡ sum_below F (at e) = λ e in'.
    twice (touches v (ends mesh e)) (count_below F (λ f. has_side (ends mesh e) (face_at mesh f)))
    (count_face_of mesh surface e in') ∙ sym
    (count_and (touches v (ends mesh e)) F (λ f. has_side (ends mesh e) (face_at mesh f))) in
    let by_face : (f : ℕ) → f < F → sum_below E (λ e. at e f) ≡ 2 * count_by (λ w. eqb w v) (face_at mesh f) = λ f in'.
    sum_below-same E (λ e. at e f) (λ e. cond (has_side (ends mesh e) (face_at mesh f) && touches v (ends mesh e)) 1 0)
    (λ e h. ap (λ b. cond b 1 0) (and_comm (touches v (ends mesh e)) (has_side (ends mesh e) (face_at mesh f)))) ∙
    edges_at mesh surface.is_mesh v f in' in
    let doubled : 2 * count_below E (λ e. touches v (ends mesh e))
    ≡ 2 * sum_below F (λ f. count_by (λ w. eqb w v) (face_at mesh f)) =
    sym (sum_below-double E (λ e. cond (touches v (ends mesh e)) 1 0))
    ∙ sum_below-same E (λ e. 2 * cond (touches v (ends mesh e)) 1 0) (λ e. sum_below F (at e)) by_edge
    ∙ sum_below-swap E F at
    ∙ sum_below-same F (λ f. sum_below E (λ e. at e f)) (λ f. 2 * count_by (λ w. eqb w v) (face_at mesh f)) by_face
    ∙ sum_below-double F (λ f. count_by (λ w. eqb w v) (face_at mesh f)) in
    omega (arith, doubled)
  where
    twice : (b : Bool) (n : ℕ) → n ≡ 2 → 2 * cond b 1 0 ≡ cond b n 0
    twice true n h = omega arith
    twice false n h = omega arith
