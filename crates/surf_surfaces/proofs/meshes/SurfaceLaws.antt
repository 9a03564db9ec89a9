-- Laws of the faces of an edge, and of the edges of a mesh.
use Rattle.surf_surfaces.proofs.Common.{◌≡◌, ◌≢◌, ℕ, zero, suc, ◌+◌, ◌<◌, Bool, true, false, ◌&&◌, ◌||◌, eqb, List, [], ◌∷◌, length, get_or, refl, sym, ap, ◌∙◌, arith, inl, inr, AllPairs, Contains, ◌↔◌, AllByRecursion, list_any, eq-eqb, ne_eqb, eqb-true, cases_eq, cases_Bool, or_right, or_left, true≢false, lt-ltb, le-ltb, cases_lt, All-from_recursion, recursion_from_All, get_or_past, Mesh, IsMesh, IsFace, sides, pair_of, pair_eq, among, edges, xor, odd_below, or-xor, xor-and, odd_below-same, odd_below-xor, odd_below-one, face_count, edge_count, face_at, ends, has_side, places_from, faces_with, faces_of, HasEdge, IsSurface}
use Rattle.surf_surfaces.proofs.meshes.PairLaws.{pair_eq-true, pair_eq-self}
use Rattle.surf_surfaces.proofs.meshes.EdgeLaws.{among-edges, list_any_at, list_any_from}
use Rattle.surf_surfaces.proofs.meshes.FaceLaws.{IsStepBelow, face_steps}

-- by recursion: each number is below all later ones
abbrev pub Climbing : List ℕ → Type 0
Climbing [] = Unit {0}
Climbing (f ∷ rest) = AllByRecursion (λ g. f < g) rest × Climbing rest

climbing_at : (xs : List ℕ) → Climbing xs → AllPairs (λ f g. f < g) xs
climbing_at [] h i j d lt in' = absurd (omega arith)
climbing_at (x ∷ xs) h i zero d lt in' = absurd (omega arith)
climbing_at (x ∷ xs) h zero (suc j) d lt in' = All-from_recursion (λ q. x < q) xs h.0 j d (omega arith)
climbing_at (x ∷ xs) h (suc i) (suc j) d lt in' = climbing_at xs h.1 i j d (omega arith) (omega arith)

places_from-above : (m n : ℕ) (p : ℕ × ℕ) (faces : List (List ℕ)) → m < n →
    AllByRecursion (λ f. m < f) (places_from n p faces)
places_from-above m n p [] h = tt
places_from-above m n p (face ∷ rest) h = elim (cases_Bool (has_side p face)) [
  | inl e ↦ rw e (h, places_from-above m (n + 1) p rest (omega arith))
  | inr e ↦ rw e (places_from-above m (n + 1) p rest (omega arith))
]

places_from-climb : (n : ℕ) (p : ℕ × ℕ) (faces : List (List ℕ)) → Climbing (places_from n p faces)
places_from-climb n p [] = tt
places_from-climb n p (face ∷ rest) = elim (cases_Bool (has_side p face)) [
  | inl e ↦ rw e (places_from-above n (n + 1) p rest (omega arith), places_from-climb (n + 1) p rest)
  | inr e ↦ rw e (places_from-climb (n + 1) p rest)
]

-- no number of the list is m
none_is : (m : ℕ) (xs : List ℕ) → AllByRecursion (λ f. m < f) xs → list_any (eqb m) xs ≡ false
none_is m [] h = refl
none_is m (x ∷ xs) h =
    let apart : eqb m x ≡ false = ne_eqb m x (λ e. let below : m < x = h.0 in omega arith) in
    rw apart (none_is m xs h.1)

places_from-has : (n : ℕ) (p : ℕ × ℕ) (faces : List (List ℕ)) (k : ℕ) → list_any (eqb (n + k)) (places_from n p faces)
    ≡ has_side p (get_or faces k [])
places_from-has n p [] k = refl
places_from-has n p (face ∷ rest) zero = elim (cases_Bool (has_side p face)) [
  | inl e ↦ rw e (or_left (eqb (n + 0) n) (list_any (eqb (n + 0)) (places_from (n + 1) p rest))
      (eq-eqb (n + 0) n (omega arith)))
  | inr e ↦ rw e (none_is (n + 0) (places_from (n + 1) p rest) (places_from-above (n + 0) (n + 1) p rest (omega arith)))
]
places_from-has n p (face ∷ rest) (suc k) =
    let shifted : n + suc k ≡ (n + 1) + k = omega arith in
    let apart : eqb (n + suc k) n ≡ false = ne_eqb (n + suc k) n (λ e. omega arith) in
    let later = ap (λ m. list_any (eqb m) (places_from (n + 1) p rest)) shifted ∙ places_from-has (n + 1) p rest k in
    elim (cases_Bool (has_side p face)) [ inl e ↦ rw (e, apart) later | inr e ↦ rw e later ]

pub faces_with-rise : (mesh : Mesh) (p : ℕ × ℕ) → AllPairs (λ f g. f < g) (faces_with mesh p)
faces_with-rise mesh p = climbing_at (faces_with mesh p) (places_from-climb 0 p mesh.faces)

-- a face is listed with a pair where the pair is a side of it
pub faces_with-has : (mesh : Mesh) (p : ℕ × ℕ) (f : ℕ) → list_any (eqb f) (faces_with mesh p)
    ≡ has_side p (face_at mesh f)
faces_with-has mesh p f =
    let e : f ≡ 0 + f = omega arith in
    ap (λ g. list_any (eqb g) (faces_with mesh p)) e ∙ places_from-has 0 p mesh.faces f

-- what has a side is a face
pub has_side-face : (mesh : Mesh) (p : ℕ × ℕ) (f : ℕ) → has_side p (face_at mesh f) ≡ true → f < face_count mesh
has_side-face mesh p f h = elim (cases_lt f (face_count mesh)) [
  | inl lt ↦ lt
  | inr ge ↦ absurd (true≢false (sym h ∙ ap (has_side p) (get_or_past mesh.faces f [] ge)))
]

pub faces_with-contains : (mesh : Mesh) (p : ℕ × ℕ) (f : ℕ) → Contains (faces_with mesh p) f ↔ HasEdge mesh f p
faces_with-contains mesh p f = (
  (λ c.
      let has : has_side p (face_at mesh f) ≡ true =
      sym (faces_with-has mesh p f) ∙ list_any_from (eqb f) (faces_with mesh p) f c.0 c.1
      (eq-eqb f (get_or (faces_with mesh p) c.0 f) (sym c.2)) in
      (has_side-face mesh p f has, has)),
  (λ h.
      let r = list_any_at (eqb f) (faces_with mesh p) f (faces_with-has mesh p f ∙ h.1) in
      (r.0, r.1, sym (eqb-true f (get_or (faces_with mesh p) r.0 f) r.2))),
)

two_listed : (xs : List ℕ) (f : ℕ) → length xs ≡ 2 →
    list_any (eqb f) xs ≡ (eqb f (get_or xs 0 0) || eqb f (get_or xs 1 0))
two_listed [] f h = absurd (omega arith)
two_listed (a ∷ []) f h = absurd (omega arith)
two_listed (a ∷ b ∷ []) f h =
    elim (cases_Bool (eqb f a)) [
      | inl e ↦ rw e
      | inr e ↦ rw e (elim (cases_Bool (eqb f b)) [ inl e ↦ rw e | inr e ↦ rw e ])
    ]
two_listed (a ∷ b ∷ c ∷ rest) f h = absurd (omega arith)

-- the two faces of an edge: they differ, have it, and no other face has it
pub record AreTwoFaces (mesh : Mesh) (p : ℕ × ℕ) (faces : ℕ × ℕ) : Type 0 where
  pub lesser_first : faces.0 < faces.1
  pub second_is_face : faces.1 < face_count mesh
  pub no_other : (f : ℕ) → has_side p (face_at mesh f) ≡ (eqb f faces.0 || eqb f faces.1)

pub two_faces_of : (mesh : Mesh) → IsSurface mesh → (e : ℕ) → e < edge_count mesh →
    AreTwoFaces mesh (ends mesh e) (faces_of mesh e)
two_faces_of mesh surface e in' =
    let two : length (faces_with mesh (ends mesh e)) ≡ 2 = surface.two_faces e in' in
    let a = (faces_of mesh e).0 in
    let b = (faces_of mesh e).1 in
    let only : (f : ℕ) → has_side (ends mesh e) (face_at mesh f) ≡ (eqb f a || eqb f b) =
    λ f. sym (faces_with-has mesh (ends mesh e) f) ∙ two_listed (faces_with mesh (ends mesh e)) f two in
    record {
      lesser_first = faces_with-rise mesh (ends mesh e) 0 1 0 (omega arith) (omega arith);
      second_is_face = has_side-face mesh (ends mesh e) b (only b ∙ or_right (eqb b a) (eqb b b) (eq-eqb b b refl));
      no_other = only;
    }

-- exactly one of two different numbers
pub one_of_two : (k a b : ℕ) → a ≢ b → (eqb k a || eqb k b) ≡ xor (eqb k a) (eqb k b)
one_of_two k a b apart = or-xor (eqb k a) (eqb k b) (λ e f. apart (sym (eqb-true k a e) ∙ eqb-true k b f))

-- over all faces, the two of an edge are picked
pub odd_below-faces : (mesh : Mesh) → IsSurface mesh → (chosen : ℕ → Bool) (e : ℕ) → e < edge_count mesh →
    odd_below (face_count mesh) (λ f. has_side (ends mesh e) (face_at mesh f) && chosen f)
    ≡ xor (chosen (faces_of mesh e).0) (chosen (faces_of mesh e).1)
odd_below-faces mesh surface chosen e in' =
    let two = two_faces_of mesh surface e in' in
    let a = (faces_of mesh e).0 in
    let b = (faces_of mesh e).1 in
    let lt : a < b = two.lesser_first in
    let second : b < face_count mesh = two.second_is_face in
    let apart : a ≢ b = λ same. omega arith in
    let F = face_count mesh in
    let one : (f : ℕ) → f < F → (has_side (ends mesh e) (face_at mesh f) && chosen f)
    ≡ xor (eqb f a && chosen f) (eqb f b && chosen f) = λ f h.
    ap (λ t. t && chosen f) (two.no_other f ∙ one_of_two f a b apart) ∙ xor-and (eqb f a) (eqb f b) (chosen f) in
    let first_is_face : a < F = omega arith in
    odd_below-same F (λ f. has_side (ends mesh e) (face_at mesh f) && chosen f)
    (λ f. xor (eqb f a && chosen f) (eqb f b && chosen f)) one
    ∙ odd_below-xor F (λ f. eqb f a && chosen f) (λ f. eqb f b && chosen f)
    ∙ ap (λ t. xor t (odd_below F (λ f. eqb f b && chosen f))) (odd_below-one F a chosen first_is_face)
    ∙ ap (xor (chosen a)) (odd_below-one F b chosen second)

-- a side's ends in order
pair_of_below : (n : ℕ) (s : ℕ × ℕ) → IsStepBelow n s → ((pair_of s).0 < (pair_of s).1) × ((pair_of s).1 < n)
pair_of_below n s h = elim (cases_lt s.0 s.1) [
  | inl lt ↦ rw (lt-ltb s.0 s.1 lt) (lt, h.1)
  | inr ge ↦ elim (cases_eq s.0 s.1) [
    | inl e ↦ absurd (h.2 e)
    | inr e ↦ rw (le-ltb s.0 s.1 ge) (omega arith, h.0)
  ]
]

side_below : (n : ℕ) (p : ℕ × ℕ) (face : List ℕ) → IsFace n face → has_side p face ≡ true → (p.0 < p.1) × (p.1 < n)
side_below n p face h has =
    let r = list_any_at (λ s. pair_eq p (pair_of s)) (sides face) (0, 0) has in
    let below = All-from_recursion (IsStepBelow n) (sides face) (face_steps n face h) r.0 (0, 0) r.1 in
    rw (pair_eq-true p (pair_of (get_or (sides face) r.0 (0, 0))) r.2)
    (pair_of_below n (get_or (sides face) r.0 (0, 0)) below)

-- the lesser end of an edge is first, and both are vertices
pub edge_below : (mesh : Mesh) → IsMesh mesh → (p : ℕ × ℕ) → among p (edges mesh) ≡ true →
    (p.0 < p.1) × (p.1 < mesh.vertices)
edge_below mesh h p has =
    let r = list_any_at (has_side p) mesh.faces [] (sym (among-edges mesh p) ∙ has) in
    side_below mesh.vertices p (get_or mesh.faces r.0 []) (h r.0 [] r.1) r.2

-- a face's sides are edges
pub sides_are_edges : (mesh : Mesh) (f : ℕ) → f < face_count mesh →
    AllByRecursion (λ s. among (pair_of s) (edges mesh) ≡ true) (sides (face_at mesh f))
sides_are_edges mesh f in' =
    recursion_from_All (λ s. among (pair_of s) (edges mesh) ≡ true) (sides (face_at mesh f)) (λ k d at.
    let s = get_or (sides (face_at mesh f)) k d in
    let has : has_side (pair_of s) (face_at mesh f) ≡ true =
    list_any_from (λ t. pair_eq (pair_of s) (pair_of t)) (sides (face_at mesh f)) d k at (pair_eq-self (pair_of s)) in
    among-edges mesh (pair_of s) ∙ list_any_from (has_side (pair_of s)) mesh.faces [] f in' has)
