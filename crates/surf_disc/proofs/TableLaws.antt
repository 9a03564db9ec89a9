-- Border edges, their number and crowded edges, by the rows of an edge table.
use Rattle.surf_surfaces.proofs.Common.{◌≡◌, ℕ, ◌+◌, ◌<◌, ◌≤◌, Bool, cond, eqb, List, [], ◌∷◌, length, get_or, map, take, refl, sym, ap, ◌∙◌, arith, inl, inr, true≢false, cases_Bool, length-map, sum_by-cons, edge_count, ends, faces_with, count_by, IsBorderEdge, ShareOnBorder, Mesh, IsMesh, pair_lt, pair_eq, insert_pair, sorted_pairs, edges, side_count, side_pairs, sides_with, owners}
use Rattle.surf_surfaces.proofs.meshes.JoinedLaws.{joined_trans, joined_sym}
use Rattle.surf_soup.specs.EdgeTable.{IsEdgeTable}
use Rattle.surf_soup.specs.Pairs.{NoneWithin, IsFirstWithin, degree}
use Rattle.surf_soup.specs.Reach.{marked}
use Rattle.surf_soup.proofs.EdgeTables.{length-side_pairs}
use Rattle.surf_soup.proofs.Owners.{faces_with-sides}
use Rattle.surf_soup.proofs.Paired.{rows_len, row_degree, no_crowds, face_at_place}
use Rattle.surf_disc.specs.Across.{NoneCrowded}
use Rattle.surf_disc.specs.Border.{border_count, IsLeastOnBorder, IsLeastOutside, IsBorderMarked, AllInside}
use Rattle.surf_disc.specs.Border.{IsFirstOutside, HasOneBorder}
use Rattle.surf_disc.specs.Fault.{IsLeastCrowded}
use Rattle.surf_disc.proofs.BorderLaws.{share_sym}

length-insert : (p : ℕ × ℕ) (xs : List (ℕ × ℕ)) → length (insert_pair p xs) ≤ length xs + 1
length-insert p [] = omega arith
length-insert p (q ∷ rest) = elim (cases_Bool (pair_lt p q)) [
  | inl e ↦ rw e (omega arith)
  | inr e ↦ elim (cases_Bool (pair_eq p q)) [
    | inl f ↦ rw (e, f) (omega arith)
    | inr f ↦ let later = length-insert p rest in rw (e, f) (omega (arith, later))
  ]
]

length-sorted : (xs : List (ℕ × ℕ)) → length (sorted_pairs xs) ≤ length xs
length-sorted [] = omega arith
length-sorted (p ∷ rest) = omega (arith, length-insert p (sorted_pairs rest), length-sorted rest)

-- no more edges than sides
pub edges_within : (mesh : Mesh) → edge_count mesh ≤ side_count mesh
edges_within mesh = omega (arith, length-sorted (side_pairs mesh.faces), length-side_pairs mesh)

count_map : (mesh : Mesh) → IsMesh mesh → (ps : List (ℕ × ℕ)) →
    count_by (λ p. eqb (length (faces_with mesh p)) 1) ps ≡ count_by (λ row. eqb (length row) 1)
    (map (sides_with mesh) ps)
count_map mesh is_mesh [] = refl
count_map mesh is_mesh (p ∷ ps) =
    let same : length (faces_with mesh p) ≡ length (sides_with mesh p) = ap length (faces_with-sides mesh is_mesh p)
    ∙ length-map (sides_with mesh p) (λ s. get_or (owners 0 mesh.faces) s 0) in
    let later = count_map mesh is_mesh ps in
    let a = sum_by-cons {X = ℕ × ℕ} (λ q. cond (eqb (length (faces_with mesh q)) 1) 1 0) p ps in
    let b = sum_by-cons {X = List ℕ} (λ row. cond (eqb (length row) 1) 1 0) (sides_with mesh p)
    (map (sides_with mesh) ps) in
    a ∙ ap (λ n. cond (eqb n 1) 1 0 + count_by (λ q. eqb (length (faces_with mesh q)) 1) ps) same
    ∙ ap (λ n. cond (eqb (length (sides_with mesh p)) 1) 1 0 + n) later ∙ sym b

module _ (mesh : Mesh) (is_mesh : IsMesh mesh) (edge_list : List (ℕ × ℕ)) (rows : List (List ℕ))
    (edge_of face_of numbers : List ℕ) (t : IsEdgeTable mesh edge_list rows edge_of face_of numbers) where
  pub table_len : length rows ≡ edge_count mesh
  table_len = rows_len mesh is_mesh rows face_of t.sides_are t.face_of_is

  pub list_len : length edge_list ≡ edge_count mesh
  list_len = ap length t.edge_list_is

  pub rows_counted : border_count mesh ≡ count_by (λ row. eqb (length row) 1) rows
  rows_counted = count_map mesh is_mesh (edges mesh)
      ∙ ap (count_by (λ (row : List ℕ). eqb (length row) 1)) (sym t.sides_are)

  degree_is : (e : ℕ) → e < edge_count mesh → degree mesh e ≡ length (get_or rows e [])
  degree_is e lt = row_degree mesh is_mesh rows face_of t.sides_are t.face_of_is e lt

  single_row : (e : ℕ) → IsBorderEdge mesh e → length (get_or rows e []) ≡ 1
  single_row e is = sym (degree_is e is.0) ∙ is.1

  pub first_border : (e : ℕ) → IsFirstWithin 1 1 rows e → IsLeastOnBorder mesh e
  first_border e first =
      let n = table_len in
      let row = first.is_row in
      let lt : e < edge_count mesh = omega arith in
      let size = degree_is e lt in
      record {
        on_border = (lt, omega (arith, size, first.at_least, first.at_most));
        none_before = λ d below is. let s = single_row d is in first.none_before d below (omega arith) (omega arith);
      }

  pub no_border : NoneWithin 1 1 rows → (e : ℕ) → IsBorderEdge mesh e → ⊥
  no_border none e is = let n = table_len in let s = single_row e is in let lt = is.0 in none e (omega arith)
      (omega arith) (omega arith)

  pub none_crowded : (most : ℕ) → side_count mesh ≤ most → NoneWithin 3 most rows → NoneCrowded mesh
  none_crowded most room none e lt =
      let n = table_len in
      let few = no_crowds mesh is_mesh rows face_of t.sides_are t.face_of_is most room e lt (none e (omega arith)) in
      omega arith

  three_listed : (xs : List ℕ) → 3 ≤ length xs → take 3 xs ≡ get_or xs 0 0 ∷ get_or xs 1 0 ∷ get_or xs 2 0 ∷ []
  three_listed [] h = absurd (omega arith)
  three_listed (x ∷ []) h = absurd (omega arith)
  three_listed (x ∷ y ∷ []) h = absurd (omega arith)
  three_listed (x ∷ y ∷ z ∷ xs) h = refl

  pub first_crowded : (most e : ℕ) → side_count mesh ≤ most → IsFirstWithin 3 most rows e →
      IsLeastCrowded mesh (ends mesh e)
      (get_or face_of (get_or (get_or rows e []) 0 0) 0 ∷ get_or face_of
      (get_or (get_or rows e []) 1 0) 0 ∷ get_or face_of (get_or (get_or rows e []) 2 0) 0 ∷ []) e
  first_crowded most e room first =
      let n = table_len in
      let row = first.is_row in
      let lt : e < edge_count mesh = omega arith in
      let at = first.at_least in
      let many : 3 ≤ length (faces_with mesh (ends mesh e)) = omega (arith, degree_is e lt) in
      let a = face_at_place mesh is_mesh rows face_of t.sides_are t.face_of_is e 0 lt (omega arith) in
      let b = face_at_place mesh is_mesh rows face_of t.sides_are t.face_of_is e 1 lt (omega arith) in
      let c = face_at_place mesh is_mesh rows face_of t.sides_are t.face_of_is e 2 lt (omega arith) in
      record {
        is_edge = lt;
        its_ends = refl;
        many = many;
        its_faces = three_listed (faces_with mesh (ends mesh e)) many ∙ rw (a, b, c) refl;
        none_before = λ d below.
            let few = no_crowds mesh is_mesh rows face_of t.sides_are t.face_of_is most room d (omega arith)
            (first.none_before d below) in
            omega arith;
      }

  module _ (e : ℕ) (seen : List Bool) (marks : IsBorderMarked mesh e seen) where
    listed_end : (h : ℕ) → marked seen (get_or edge_list h (0, 0)).0 ≡ marked seen (ends mesh h).0
    listed_end h = ap (λ (ps : List (ℕ × ℕ)). marked seen (get_or ps h (0, 0)).0) t.edge_list_is

    pub least_outside : (h : ℕ) → IsFirstOutside rows edge_list seen h → IsLeastOutside mesh e h
    least_outside h first =
        let n = table_len in
        let row = first.is_row in
        let lt : h < edge_count mesh = omega arith in
        record {
          on_border = (lt, degree_is h lt ∙ first.single);
          outside = λ chain. true≢false (sym (marks.complete h chain) ∙ sym (listed_end h) ∙ first.outside);
          inside_before = λ d below is. marks.sound d is
              (sym (listed_end d) ∙ first.inside_before d below (single_row d is));
        }

    joined_if : AllInside rows edge_list seen (length rows) → (h : ℕ) → IsBorderEdge mesh h →
        Rattle.surf_surfaces.specs.Joined.Joined (ShareOnBorder mesh) e h
    joined_if all h is = let n = table_len in let lt = is.0 in marks.sound h is
        (sym (listed_end h) ∙ all h (omega arith) (single_row h is))

    pub one_border : AllInside rows edge_list seen (length rows) → HasOneBorder mesh
    one_border all a b on_a on_b = joined_trans (joined_sym (share_sym mesh) (joined_if all a on_a))
        (joined_if all b on_b)
