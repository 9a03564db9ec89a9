-- The first fault of copies and their origins.
use Rattle.surf_sew.proofs.Common.{◌≡◌, ◌≢◌, ◌<◌, ◌≤◌, ◌+◌, ℕ, Bool, true, false, not, List, [], ◌∷◌, length, get_or, drop, Option, Some, None, refl, sym, ◌∙◌, ap, arith, slice_index, AllPairs, option_map, sum_by-cons, Mesh, IsFace, length-map, get_or-map, at_drop_more, at_drop_all, All, sum_by, All-map, first_repeat, other_default, SewFault, Line, FaceRepeat, same_line, first_like, line_fault, sewn_face, sewn_faces}
use Rattle.std.specs.Option.{option_or}
use Rattle.surf_sew.specs.Sewing.{repeat_from}
use Rattle.surf_sew.proofs.Gaps.{find_range, find_no_range}

-- whether the vertex line of a copy differs from that of the least copy with its origin
abbrev pub differs : List (List ℕ) → List ℕ → ℕ → Bool
differs lines origins c = not (same_line lines c (first_like origins c))

module _ (lines : List (List ℕ)) (origins : List ℕ) (c : ℕ) (so_far : (k : ℕ) → k < c → differs lines origins k ≡ false) where
  pub line_here : c < length origins → differs lines origins c ≡ true → line_fault lines origins ≡ Some (Line c (first_like origins c))
  line_here lt here =
      let found = find_range (differs lines origins) 0 (length origins) c (λ k l. let z : 0 + k ≡ k = omega arith in ap (differs lines origins) z ∙ so_far k l) lt (let z : 0 + c ≡ c = omega arith in ap (differs lines origins) z ∙ here) in
      let z : 0 + c ≡ c = omega arith in
      ap (option_map (λ d. Line d (first_like origins d))) (found ∙ ap (λ (k : ℕ). Some k) z)

  pub no_line : length origins ≤ c → line_fault lines origins ≡ None
  no_line le = ap (option_map (λ d. Line d (first_like origins d))) (find_no_range (differs lines origins) 0 (length origins) (λ k l. let z : 0 + k ≡ k = omega arith in ap (differs lines origins) z ∙ so_far k (omega arith)))

-- a corner and its origin, by what reads of slices give
pub corner_is : (origins face : List ℕ) (i at item v : ℕ) → i < length face → item ≡ get_or face i item → at ≡ item → at < length origins → v ≡ get_or origins at v → v ≡ get_or (sewn_face origins face) i v
corner_is origins face i at item v lt corner same few is = is ∙ other_default origins at v 0 few ∙ ap (slice_index origins) (same ∙ corner) ∙ sym (get_or-map (slice_index origins) face i item v lt)

pub sewn_inside : (origins face : List ℕ) (n : ℕ) → All (λ v. v < n) origins → All (λ c. c < length origins) face → All (λ v. v < n) (sewn_face origins face)
sewn_inside origins face n within inside = All-map (λ v. v < n) (slice_index origins) face (λ k d lt. within (get_or face k d) 0 (inside k d lt))

pub sewn_is_face : (origins face : List ℕ) (n : ℕ) → All (λ v. v < n) origins → IsFace (length origins) face → AllPairs (λ u v. u ≢ v) (sewn_face origins face) → IsFace n (sewn_face origins face)
sewn_is_face origins face n within good distinct = record {
  large = omega (arith, length-map face (slice_index origins), good.large);
  distinct = distinct;
  inside = sewn_inside origins face n within good.inside;
}

pub sewn_sides : (origins : List ℕ) (faces : List (List ℕ)) → sum_by length (sewn_faces origins faces) ≡ sum_by length faces
sewn_sides origins [] = refl
sewn_sides origins (face ∷ faces) =
    let later = sewn_sides origins faces in
    let a = sum_by-cons length (sewn_face origins face) (sewn_faces origins faces) in
    let b = sum_by-cons length face faces in
    omega (arith, a, b, later, length-map face (slice_index origins))

-- a repeated corner of a face, or the fault of a later one
abbrev pub repeat_or : ℕ → Option ℕ → Option SewFault → Option SewFault
repeat_or f o later = option_or (option_map (FaceRepeat f) o) later

module _ (faces : List (List ℕ)) (f : ℕ) (so_far : repeat_from f (drop f faces) ≡ repeat_from 0 faces) where
  step : f < length faces → repeat_from 0 faces ≡ repeat_or f (first_repeat [] (get_or faces f [])) (repeat_from (f + 1) (drop (f + 1) faces))
  unfolding repeat_from
  step lt = sym so_far ∙ at_drop_more (repeat_from f) faces f [] lt

  pub repeat_here : (v : ℕ) → f < length faces → first_repeat [] (get_or faces f []) ≡ Some v → repeat_from 0 faces ≡ Some (FaceRepeat f v)
  repeat_here v lt here = step lt ∙ ap (λ (o : Option ℕ). repeat_or f o (repeat_from (f + 1) (drop (f + 1) faces))) here

  pub repeat_next : f < length faces → first_repeat [] (get_or faces f []) ≡ None → repeat_from (f + 1) (drop (f + 1) faces) ≡ repeat_from 0 faces
  repeat_next lt none = sym (step lt ∙ ap (λ (o : Option ℕ). repeat_or f o (repeat_from (f + 1) (drop (f + 1) faces))) none)

  pub repeat_never : length faces ≤ f → repeat_from 0 faces ≡ None
  unfolding repeat_from
  repeat_never le = sym so_far ∙ at_drop_all (repeat_from f) faces f le

pub mesh_is : (m : Mesh) (n : ℕ) (faces : List (List ℕ)) → m.vertices ≡ n → m.faces ≡ faces → record { vertices = n; faces = faces } ≡ m
mesh_is m n faces vertices same = sym (ap (λ (k : ℕ). record { vertices = k; faces = m.faces }) vertices ∙ ap (λ (fs : List (List ℕ)). record { vertices = n; faces = fs }) same)
