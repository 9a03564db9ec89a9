-- Sides in the order of their vertices, and the faces with numbers in place of corners.
use Rattle.surf_slit.proofs.Common.{◌≡◌, ◌≢◌, ℕ, suc, ◌+◌, ◌-◌, ◌<◌, ◌≤◌, inl, inr, sym, subst, ap, ◌∙◌, List, [], ◌∷◌, ◌++◌, length, get_or, eqb, false, arith, cases_lt, eqb-true, ne_eqb, eqb_comm, All-from_get_or, recursion_from_All, Mesh, IsSurface, side_count, nat_cmp, get_or_default, get_or_append_left, get_or-append-add, length-append, length-le_from_distinct_below, IsPermutation, All-permutation, Contains-permutation, list_any_at, BeginsAt, IsRing, corners_len, corners_below, corner_at}
use Rattle.surf_cutter.proofs.Common.{AreSortedTo, IsRowAt, IsBefore}
use Rattle.std.specs.List.{IsDistinct}
use Rattle.std.specs.List.Sorted.{IsSorted}
use Rattle.std.proofs.lemmas.List.Sorted.{IsNonDecreasingBy-from_sort}
use Rattle.std.proofs.lemmas.Map.Keys.{IsDistinct-IsPermutation, IsStrictlyIncreasing-from_distinct, below_from_sorted, sorted_from_strictly_increasing}

-- a list of all sides, by the vertices at which they begin and at one vertex by number
pub record AreSorted (mesh : Mesh) (order : List ℕ) : Type 0 where
  pub inside : (i : ℕ) → i < length order → get_or order i 0 < side_count mesh
  pub has : (s : ℕ) → s < side_count mesh → (i : ℕ) × (i < length order) × (get_or order i 0 ≡ s)
  pub rises : (i j : ℕ) → i < j → j < length order → IsBefore mesh (get_or order i 0) (get_or order j 0)

-- numbers of which no two are equal
pub distinct_from : (xs : List ℕ) → ((i k : ℕ) → i < k → k < length xs → get_or xs i 0 ≢ get_or xs k 0) → IsDistinct eqb xs
unfolding IsDistinct
distinct_from [] differ = tt
distinct_from (x ∷ xs) differ = (
  recursion_from_All (λ y. eqb x y ≡ false) xs (All-from_get_or (λ y. eqb x y ≡ false) xs 0 (λ k h. ne_eqb x (get_or xs k 0) (differ 0 (suc k) (omega arith) (omega arith)))),
  distinct_from xs (λ i k a h. differ (suc i) (suc k) (omega arith) (omega arith)),
)

-- the ring of a vertex when it is sorted
pub sorted_row : (mesh : Mesh) (v : ℕ) (ring row : List ℕ) → IsRing mesh v ring → IsPermutation ring row → IsSorted nat_cmp row → IsRowAt mesh v row
sorted_row mesh v ring row is moved sorted =
    let distinct : IsDistinct eqb row = IsDistinct-IsPermutation eqb eqb_comm ring row moved (distinct_from ring is.differ) in
    let rising = sorted_from_strictly_increasing row (IsStrictlyIncreasing-from_distinct row (IsNonDecreasingBy-from_sort (λ x. x) row sorted) distinct) in
    record {
      begin = λ k h. All-permutation (BeginsAt mesh v) ring row moved (All-from_get_or (BeginsAt mesh v) ring 0 is.begin) k 0 h;
      all = λ s b.
          let k = is.all s b in
          let found = Contains-permutation ring row s moved (k.0, k.1, get_or_default ring k.0 s 0 k.1 ∙ k.2) in
          (found.0, found.1, get_or_default row found.0 0 s found.1 ∙ found.2);
      rises = λ i k a h. below_from_sorted row i k 0 rising a h;
    }

-- no sides are at no vertices
pub sorted_none : (mesh : Mesh) → AreSortedTo mesh 0 []
sorted_none mesh = record {
  inside = λ i h. absurd (omega arith);
  below = λ i h. absurd (omega arith);
  has = λ s h b. absurd (omega arith);
  rises = λ i j a h. absurd (omega arith);
}

-- the sides at one more vertex follow
module _ (mesh : Mesh) (v : ℕ) (order row : List ℕ) (are : AreSortedTo mesh v order) (is : IsRowAt mesh v row) where
  early : (i : ℕ) → i < length order → get_or (order ++ row) i 0 ≡ get_or order i 0
  early i h = get_or_append_left order row 0 i h

  late : (i : ℕ) → i < length (order ++ row) → length order ≤ i → (k : ℕ) × (k < length row) × (get_or (order ++ row) i 0 ≡ get_or row k 0) × (length order + k ≡ i)
  late i h ge =
      let n = length-append order row in
      let sum : length order + (i - length order) ≡ i = omega arith in
      (i - length order, omega arith, ap (λ i. get_or (order ++ row) i 0) (sym sum) ∙ get_or-append-add order row (i - length order) 0, sum)

  pub sorted_more : AreSortedTo mesh (v + 1) (order ++ row)
  sorted_more =
      let n = length-append order row in
      record {
        inside = λ i h. elim (cases_lt i (length order)) [
          | inl low ↦ subst (λ s. s < side_count mesh) (sym (early i low)) (are.inside i low)
          | inr high ↦ let k = late i h high in subst (λ s. s < side_count mesh) (sym k.2) (is.begin k.0 k.1).0
        ];
        below = λ i h. elim (cases_lt i (length order)) [
          | inl low ↦ let e = ap (corner_at mesh) (early i low) in let b = are.below i low in omega arith
          | inr high ↦ let k = late i h high in let e = ap (corner_at mesh) k.2 in let b = (is.begin k.0 k.1).1 in omega arith
        ];
        has = λ s h b. elim (cases_lt (corner_at mesh s) v) [
          | inl low ↦ let i = are.has s h low in let lt = i.1 in (i.0, omega arith, early i.0 i.1 ∙ i.2)
          | inr high ↦
              let k = is.all s (h, omega arith) in
              let lt = k.1 in
              (length order + k.0, omega arith, get_or-append-add order row k.0 0 ∙ k.2)
        ];
        rises = λ i j a h. elim (cases_lt j (length order)) [
          | inl low ↦
              let lt : i < length order = omega arith in
              subst (λ s. IsBefore mesh s (get_or (order ++ row) j 0)) (sym (early i lt)) (subst (IsBefore mesh (get_or order i 0)) (sym (early j low)) (are.rises i j a low))
          | inr high ↦
              let k = late j h high in
              let at_k = (is.begin k.0 k.1).1 in
              let e = ap (corner_at mesh) k.2 in
              elim (cases_lt i (length order)) [
                | inl low ↦ let f = ap (corner_at mesh) (early i low) in let b = are.below i low in inl (omega arith)
                | inr not_low ↦
                    let l = late i (omega arith) not_low in
                    let at_l = (is.begin l.0 l.1).1 in
                    let f = ap (corner_at mesh) l.2 in
                    let k_is = k.3 in
                    let l_is = l.3 in
                    let lt : l.0 < k.0 = omega arith in
                    let r = is.rises l.0 k.0 lt k.1 in
                    let x = k.2 in
                    let y = l.2 in
                    inr (omega arith, omega arith)
              ]
        ];
      }

-- no two places have one side
sides_differ : (mesh : Mesh) (n : ℕ) (order : List ℕ) → AreSortedTo mesh n order → (i j : ℕ) → i < j → j < length order → get_or order i 0 ≢ get_or order j 0
sides_differ mesh n order are i j a h e = elim (are.rises i j a h) [
  | inl less ↦ let z = ap (corner_at mesh) e in omega arith
  | inr same ↦ let lt = same.1 in omega arith
]

-- there are no more than there are sides
pub sorted_few : (mesh : Mesh) (n : ℕ) (order : List ℕ) → AreSortedTo mesh n order → length order ≤ side_count mesh
sorted_few mesh n order are =
    length-le_from_distinct_below order (side_count mesh) (distinct_from order (sides_differ mesh n order are))
    (λ q found. let r = list_any_at (eqb q) order 0 found in let e = eqb-true q (get_or order r.0 0) r.2 in let b = are.inside r.0 r.1 in omega arith)

-- those at all vertices are all
pub sorted_all : {mesh : Mesh} → IsSurface mesh → (order : List ℕ) → AreSortedTo mesh mesh.vertices order → AreSorted mesh order
sorted_all {mesh} surface order are = record {
  inside = are.inside;
  has = λ s h. are.has s h (corners_below mesh surface.is_mesh s 0 (let m = corners_len mesh in omega arith));
  rises = are.rises;
}
