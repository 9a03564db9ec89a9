-- What lies across a side is read from the row of its edge.
use Rattle.surf_surfaces.proofs.Common.{◌≡◌, ℕ, ◌+◌, ◌<◌, ◌≤◌, ◌⊎◌, true, eqb, List, [], ◌∷◌, ◌++◌, length, get_or, refl, sym, ap, subst, ◌∙◌, arith, inl, inr, range_with_len, cases_eq, cases_Bool, eq-eqb, eqb-true, ne_eqb, get_or_push, get_or_append_left, get_or_read, length_push, length-range_with_len, get_or-range_with_len, Mesh, IsMesh, pair_eq, side_count, pair_at, sides_with}
use Rattle.surf_surfaces.proofs.meshes.PairLaws.{pair_eq-self}
use Rattle.surf_surfaces.proofs.meshes.EdgeLaws.{list_any_at}
use Rattle.surf_soup.specs.EdgeTable.{IsEdgeTable}
use Rattle.surf_soup.proofs.Mates.{member_filter, with_pair}
use Rattle.surf_soup.proofs.Paired.{rows_len, row_is, row_degree, side_below}
use Rattle.surf_disc.specs.Across.{NoneCrowded, other_of, IsAcross, AreAcrossUpTo}

-- a side is listed with its pair
pub listed : (mesh : Mesh) (p : ℕ × ℕ) (s : ℕ) → s < side_count mesh → pair_at mesh s ≡ p →
    (k : ℕ) × (k < length (sides_with mesh p)) × (get_or (sides_with mesh p) k 0 ≡ s)
listed mesh p s lt e =
    let n = side_count mesh in
    let all = range_with_len 0 n in
    let z : 0 + s ≡ s = omega arith in
    let here : get_or all s 0 ≡ s = get_or-range_with_len 0 n s 0 lt ∙ z in
    let test = λ (t : ℕ). pair_eq p (pair_at mesh t) in
    let passes : test (get_or all s 0) ≡ true = ap test here ∙ ap (pair_eq p) e ∙ pair_eq-self p in
    let m = member_filter test all s (omega (arith, length-range_with_len 0 n)) passes in
    let r = list_any_at (eqb (get_or all s 0)) (sides_with mesh p) 0 m in
    (r.0, r.1, sym (eqb-true (get_or all s 0) (get_or (sides_with mesh p) r.0 0) r.2) ∙ here)

-- the other one of a row of at most two is in the row
other_in : (xs : List ℕ) (s : ℕ) → 0 < length xs → length xs ≤ 2 →
    (k : ℕ) × (k < length xs) × (get_or xs k 0 ≡ other_of xs s)
other_in [] s some few = absurd (omega arith)
other_in (x ∷ []) s some few = elim (cases_Bool (eqb x s))
    [ inl e ↦ (0, omega arith, rw e refl) | inr e ↦ (0, omega arith, rw e refl) ]
other_in (x ∷ y ∷ []) s some few = elim (cases_Bool (eqb x s))
    [ inl e ↦ (1, omega arith, rw e refl) | inr e ↦ (0, omega arith, rw e refl) ]
other_in (x ∷ y ∷ z ∷ xs) s some few = absurd (omega arith)

-- and with one of the row there is no third
other_only : (xs : List ℕ) (s k j : ℕ) → length xs ≤ 2 → k < length xs → get_or xs k 0 ≡ s → j < length xs →
    (get_or xs j 0 ≡ s) ⊎ (get_or xs j 0 ≡ other_of xs s)
other_only [] s k j few lt e in' = absurd (omega arith)
other_only (x ∷ []) s k j few lt e in' =
    let a : k ≡ 0 = omega arith in
    let b : j ≡ 0 = omega arith in
    inl (ap (λ i. get_or (x ∷ []) i 0) (b ∙ sym a) ∙ e)
other_only (x ∷ y ∷ []) s k j few lt e in' = elim (cases_eq x s) [
  | inl is ↦ elim (cases_eq j 0) [
    | inl z ↦ inl (ap (λ i. get_or (x ∷ y ∷ []) i 0) z ∙ is)
    | inr ne ↦ let one : j ≡ 1 = omega arith in inr (ap (λ i. get_or (x ∷ y ∷ []) i 0) one ∙ rw (eq-eqb x s is) refl)
  ]
  | inr other ↦ elim (cases_eq j 0) [
    | inl z ↦ inr (ap (λ i. get_or (x ∷ y ∷ []) i 0) z ∙ rw (ne_eqb x s other) refl)
    | inr ne ↦
        let one : j ≡ 1 = omega arith in
        elim (cases_eq k 0) [
          | inl z ↦ absurd (other (ap (λ i. get_or (x ∷ y ∷ []) i 0) (sym z) ∙ e))
          | inr nk ↦ let k1 : k ≡ 1 = omega arith in inl (ap (λ i. get_or (x ∷ y ∷ []) i 0) (one ∙ sym k1) ∙ e)
        ]
  ]
]
other_only (x ∷ y ∷ z ∷ xs) s k j few lt e in' = absurd (omega arith)

-- the row of a side's edge, in an edge table of a mesh with no crowded edge
pub record IsRowOf (mesh : Mesh) (s : ℕ) (row : List ℕ) : Type 0 where
  pub few : length row ≤ 2
  pub is_row : row ≡ sides_with mesh (pair_at mesh s)

pub row_of : (mesh : Mesh) → IsMesh mesh →
    (edge_list : List (ℕ × ℕ)) (rows : List (List ℕ)) (edge_of face_of numbers : List ℕ) →
    IsEdgeTable mesh edge_list rows edge_of face_of numbers → NoneCrowded mesh →
    (s : ℕ) → s < side_count mesh →
    (get_or edge_of s 0 < length rows) × IsRowOf mesh s (get_or rows (get_or edge_of s 0) [])
row_of mesh is_mesh edge_list rows edge_of face_of numbers t none s lt =
    let e = get_or edge_of s 0 in
    let below = t.edge_numbers.below s lt in
    let n = rows_len mesh is_mesh rows face_of t.sides_are t.face_of_is in
    let size = row_degree mesh is_mesh rows face_of t.sides_are t.face_of_is e below in (
      omega arith,
      record {
        few = omega (arith, size, none e below);
        is_row = row_is mesh is_mesh rows face_of t.sides_are t.face_of_is e below
            ∙ ap (sides_with mesh) (t.edge_numbers.same s lt);
      },
    )

pub row_has : (mesh : Mesh) (s : ℕ) (row : List ℕ) → IsRowOf mesh s row → s < side_count mesh → 0 < length row
row_has mesh s row r lt = let k = listed mesh (pair_at mesh s) s lt refl in let in' = k.1 in omega
    (arith, ap length r.is_row)

pub row_across : (mesh : Mesh) (s : ℕ) (row : List ℕ) → IsRowOf mesh s row → s < side_count mesh →
    IsAcross mesh s (other_of row s)
row_across mesh s row r lt =
    let p = pair_at mesh s in
    let xs = sides_with mesh p in
    let size = ap length r.is_row in
    let few : length xs ≤ 2 = omega (arith, r.few) in
    let own = listed mesh p s lt refl in
    let in' = own.1 in
    let at = other_in xs s (omega arith) few in
    let P : List ℕ → Type 0 = λ row. IsAcross mesh s (other_of row s) in
    let Q : ℕ → Type 0 = λ t. t < side_count mesh in
    let is : IsAcross mesh s (other_of xs s) = record {
      is_side = subst Q at.2 (side_below mesh p at.0 0 at.1);
      same_edge = ap (pair_at mesh) (sym at.2) ∙ with_pair mesh p at.0 at.1;
      no_third = λ u below same differs.
          let k = listed mesh p u below same in
          let both = other_only xs s own.0 k.0 few own.1 own.2 k.1 in
          elim both [ inl e ↦ absurd (differs (sym k.2 ∙ e)) | inr e ↦ sym k.2 ∙ e ];
    } in
    subst P (sym r.is_row) is

pub across_more : (mesh : Mesh) (k t : ℕ) (old : List ℕ) → AreAcrossUpTo mesh k old → IsAcross mesh k t →
    AreAcrossUpTo mesh (k + 1) (old ++ t ∷ [])
across_more mesh k t old a is =
    let n = a.size in
    let P : ℕ → Type 0 = λ x. IsAcross mesh k x in
    record {
      size = omega (arith, length_push old t, n);
      all = λ s below. elim (cases_eq s k) [
        | inl e ↦ let Q : ℕ → Type 0 = λ j. IsAcross mesh j (get_or (old ++ t ∷ []) j 0) in subst Q (sym e)
            (subst P (sym (get_or_push old t 0 k n)) is)
        | inr ne ↦ let Q : ℕ → Type 0 = λ x. IsAcross mesh s x in subst Q
            (sym (get_or_append_left old (t ∷ []) 0 s (omega arith))) (a.all s (omega arith))
      ];
    }

-- the row of a side's edge, as it is read
pub row_read : (mesh : Mesh) → IsMesh mesh →
    (edge_list : List (ℕ × ℕ)) (rows : List (List ℕ)) (edge_of face_of numbers : List ℕ) →
    IsEdgeTable mesh edge_list rows edge_of face_of numbers → NoneCrowded mesh →
    (s : ℕ) → s < side_count mesh → (edge : ℕ) (row : List ℕ) → edge ≡ get_or edge_of s edge →
    row ≡ get_or rows edge [] → IsRowOf mesh s row
row_read mesh is_mesh edge_list rows edge_of face_of numbers t none s lt edge row e r =
    let own = row_of mesh is_mesh edge_list rows edge_of face_of numbers t none s lt in
    let size = t.edge_numbers.size in
    let at : edge ≡ get_or edge_of s 0 = get_or_read edge_of s edge (omega arith) e 0 in
    let P : List ℕ → Type 0 = λ xs. IsRowOf mesh s xs in
    subst P (sym (r ∙ ap (λ k. get_or rows k []) at)) own.1
