-- Rows of sides, read as the faces of edges.
use Rattle.surf_surfaces.proofs.Common.{◌≡◌, ◌≢◌, ℕ, ◌+◌, ◌<◌, ◌≤◌, true, List, [], ◌∷◌, length, get_or, take, map, refl, sym, ap, ◌∙◌, arith, inl, inr, list_any, range_with_len, true≢false, cases_eq, cases_lt, All-from_recursion, length-range_with_len, get_or-range_with_len, Mesh, IsMesh, pair_eq, edges, edge_count, ends, faces_with, length-map, get_or-map, nil_from_length, length-filter, count_by-le-length, side_count, side_pairs, pair_at, owners, sides_with}
use Rattle.surf_surfaces.proofs.meshes.PairLaws.{pair_eq-self}
use Rattle.surf_surfaces.proofs.meshes.EdgeLaws.{among-sorted, list_any_at, list_any_from}
use Rattle.surf_soup.specs.Pairs.{NoneWithin, IsFirstWithin, degree, HasTwoFaces, IsLeastBorder, IsLeastCrowd}
use Rattle.surf_soup.proofs.Order.{all_filter, range_below, any_of_filter}
use Rattle.surf_soup.proofs.EdgeTables.{length-side_pairs}
use Rattle.surf_soup.proofs.Owners.{faces_with-sides}

-- lists of one and of at least three
one_listed : (xs : List ℕ) → length xs ≡ 1 → xs ≡ get_or xs 0 0 ∷ []
one_listed [] h = absurd (omega arith)
one_listed (x ∷ []) h = refl
one_listed (x ∷ y ∷ xs) h = absurd (omega arith)

three_listed : (xs : List ℕ) → 3 ≤ length xs → take 3 xs ≡ get_or xs 0 0 ∷ get_or xs 1 0 ∷ get_or xs 2 0 ∷ []
three_listed [] h = absurd (omega arith)
three_listed (x ∷ []) h = absurd (omega arith)
three_listed (x ∷ y ∷ []) h = absurd (omega arith)
three_listed (x ∷ y ∷ z ∷ xs) h = refl

pub side_below : (mesh : Mesh) (p : ℕ × ℕ) (k d : ℕ) → k < length (sides_with mesh p) →
    get_or (sides_with mesh p) k d < side_count mesh
side_below mesh p k d lt =
    let n = side_count mesh in
    All-from_recursion (λ s. s < n) (sides_with mesh p)
    (all_filter (λ s. s < n) (λ s. pair_eq p (pair_at mesh s)) (range_with_len 0 n)
    (range_below 0 n n (omega arith))) k d lt

pub row_short : (mesh : Mesh) (p : ℕ × ℕ) → length (sides_with mesh p) ≤ side_count mesh
row_short mesh p =
    let all = range_with_len 0 (side_count mesh) in
    let test = λ (s : ℕ). pair_eq p (pair_at mesh s) in
    omega (arith, length-filter test all, count_by-le-length test all, length-range_with_len 0 (side_count mesh))

-- an edge has a side
pub row_some : (mesh : Mesh) (e : ℕ) → e < edge_count mesh → 0 < length (sides_with mesh (ends mesh e))
row_some mesh e lt = elim (cases_eq (length (sides_with mesh (ends mesh e))) 0) [
  | inl none ↦
      let p = ends mesh e in
      let n = length-side_pairs mesh in
      let all = range_with_len 0 (side_count mesh) in
      let test = λ (s : ℕ). pair_eq p (pair_at mesh s) in
      let r = list_any_at (pair_eq p) (side_pairs mesh.faces) (0, 0) (sym (among-sorted p (side_pairs mesh.faces))
      ∙ list_any_from (pair_eq p) (edges mesh) (0, 0) e lt (pair_eq-self p)) in
      let here : get_or all r.0 0 ≡ 0 + r.0 = get_or-range_with_len 0 (side_count mesh) r.0 0 (omega (arith, r.1)) in
      let z : 0 + r.0 ≡ r.0 = omega arith in
      let has = list_any_from test all 0 r.0 (omega (arith, r.1, length-range_with_len 0 (side_count mesh)))
      (ap test (here ∙ z) ∙ r.2) in
      absurd (true≢false (sym has ∙ any_of_filter test all
      ∙ ap (list_any (λ x. true)) (nil_from_length (sides_with mesh p) none)))
  | inr some ↦ omega arith
]

module _ (mesh : Mesh) (is_mesh : IsMesh mesh) (rows : List (List ℕ)) (face_of : List ℕ)
    (rows_are : rows ≡ map (sides_with mesh) (edges mesh)) (faces_are : face_of ≡ owners 0 mesh.faces) where
  pub rows_len : length rows ≡ edge_count mesh
  rows_len = ap length rows_are ∙ length-map (edges mesh) (sides_with mesh)

  pub row_is : (e : ℕ) → e < edge_count mesh → get_or rows e [] ≡ sides_with mesh (ends mesh e)
  row_is e lt = ap (λ (r : List (List ℕ)). get_or r e []) rows_are
      ∙ get_or-map (sides_with mesh) (edges mesh) e (0, 0) [] lt

  pub row_faces : (e : ℕ) → e < edge_count mesh →
      faces_with mesh (ends mesh e) ≡ map (λ s. get_or face_of s 0) (get_or rows e [])
  row_faces e lt =
      faces_with-sides mesh is_mesh (ends mesh e)
      ∙ ap (λ (os : List ℕ). map (λ s. get_or os s 0) (sides_with mesh (ends mesh e))) (sym faces_are)
      ∙ ap (map (λ s. get_or face_of s 0)) (sym (row_is e lt))

  pub row_degree : (e : ℕ) → e < edge_count mesh → degree mesh e ≡ length (get_or rows e [])
  row_degree e lt = ap length (row_faces e lt) ∙ length-map (get_or rows e []) (λ s. get_or face_of s 0)

  pub row_side : (e k : ℕ) → e < edge_count mesh → k < length (get_or rows e []) →
      get_or (get_or rows e []) k 0 < side_count mesh
  row_side e k lt in' =
      let is = row_is e lt in
      let at = side_below mesh (ends mesh e) k 0 (omega (arith, ap length is)) in
      omega (arith, at, ap (λ (r : List ℕ). get_or r k 0) is)

  pub face_at_place : (e k : ℕ) → e < edge_count mesh → k < length (get_or rows e []) →
      get_or (faces_with mesh (ends mesh e)) k 0 ≡ get_or face_of (get_or (get_or rows e []) k 0) 0
  face_at_place e k lt in' = ap (λ (xs : List ℕ). get_or xs k 0) (row_faces e lt)
      ∙ get_or-map (λ s. get_or face_of s 0) (get_or rows e []) k 0 0 in'

  pub least_border : (e : ℕ) → IsFirstWithin 1 1 rows e →
      IsLeastBorder mesh (ends mesh e) (get_or face_of (get_or (get_or rows e []) 0 0) 0) e
  least_border e first =
      let n = rows_len in
      let row = first.is_row in
      let lt : e < edge_count mesh = omega arith in
      let size : degree mesh e ≡ 1 = omega (arith, row_degree e lt, first.at_least, first.at_most) in
      record {
        is_edge = lt;
        its_ends = refl;
        its_face = one_listed (faces_with mesh (ends mesh e)) size
            ∙ ap (λ f. f ∷ []) (face_at_place e 0 lt (omega (arith, first.at_least)));
        none_before = λ d below one. let s = row_degree d (omega arith) in
            first.none_before d below (omega arith) (omega arith);
      }

  pub no_borders : NoneWithin 1 1 rows → (d : ℕ) → d < edge_count mesh → degree mesh d ≢ 1
  no_borders none d lt one = let n = rows_len in let s = row_degree d lt in
      none d (omega arith) (omega arith) (omega arith)

  pub no_crowds : (most : ℕ) → side_count mesh ≤ most → (d : ℕ) → d < edge_count mesh →
      (3 ≤ length (get_or rows d []) → length (get_or rows d []) ≤ most → ⊥) → degree mesh d < 3
  no_crowds most room d lt none = elim (cases_lt (degree mesh d) 3) [
    | inl less ↦ less
    | inr many ↦
        let s = row_degree d lt in
        let short = row_short mesh (ends mesh d) in
        let is = ap length (row_is d lt) in
        absurd (none (omega arith) (omega arith))
  ]

  pub least_crowd : (most e : ℕ) → side_count mesh ≤ most → NoneWithin 1 1 rows → IsFirstWithin 3 most rows e →
      IsLeastCrowd mesh (ends mesh e)
      (get_or face_of (get_or (get_or rows e []) 0 0) 0 ∷ get_or face_of (get_or (get_or rows e []) 1 0) 0 ∷ get_or
      face_of (get_or (get_or rows e []) 2 0) 0 ∷ []) e
  least_crowd most e room none first =
      let n = rows_len in
      let row = first.is_row in
      let lt : e < edge_count mesh = omega arith in
      let many : 3 ≤ degree mesh e = omega (arith, row_degree e lt, first.at_least) in
      let at = first.at_least in
      let a = face_at_place e 0 lt (omega arith) in
      let b = face_at_place e 1 lt (omega arith) in
      let c = face_at_place e 2 lt (omega arith) in
      record {
        is_edge = lt;
        its_ends = refl;
        many = many;
        its_faces = three_listed (faces_with mesh (ends mesh e)) many ∙ rw (a, b, c) refl;
        none_before = λ d below. no_crowds most room d (omega arith) (first.none_before d below);
        no_border = no_borders none;
      }

  pub all_two : (most : ℕ) → side_count mesh ≤ most → NoneWithin 1 1 rows → NoneWithin 3 most rows → HasTwoFaces mesh
  all_two most room no_border no_crowd e lt =
      let n = rows_len in
      let less = no_crowds most room e lt (no_crowd e (omega arith)) in
      let other = no_borders no_border e lt in
      let some = row_some mesh e lt in
      let s = row_degree e lt in
      let is = ap length (row_is e lt) in
      elim (cases_eq (degree mesh e) 1) [ inl one ↦ absurd (other one) | inr ne ↦ omega arith ]
