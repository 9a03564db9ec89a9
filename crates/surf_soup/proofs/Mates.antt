-- The two sides of an edge.
use Rattle.surf_surfaces.proofs.Common.{◌≡◌, ◌≢◌, ℕ, zero, suc, ◌+◌, ◌<◌, ◌≤◌, ◌⊎◌, Bool, true, eqb, List, [], ◌∷◌, length, get_or, map, refl, sym, ap, ◌∙◌, arith, inl, inr, eq-eqb, eqb-true, cases_eq, cases_Bool, or_left, or_right, All-from_recursion, length-range_with_len, get_or-range_with_len, Mesh, IsMesh, pair_eq, edges, edge_count, ends, place_of, side_count, pair_at, owners, sides_with, IsMate}
use Rattle.std.specs.List.{AllByRecursion, filter, list_any, range_with_len}
use Rattle.surf_surfaces.proofs.meshes.PairLaws.{pair_eq-true, pair_eq-self}
use Rattle.surf_surfaces.proofs.meshes.EdgeLaws.{list_any_at}
use Rattle.surf_soup.specs.EdgeTable.{AreEdgeNumbers}
use Rattle.surf_soup.specs.Half.{AreAllMates}
use Rattle.surf_soup.specs.Pairs.{HasTwoFaces}
use Rattle.surf_soup.proofs.Paired.{rows_len, row_is, row_degree, row_side}
use Rattle.surf_surfaces.proofs.meshes.EdgeLaws.{place_of-ends}
use Rattle.surf_soup.proofs.Order.{Ordered, all_filter, passing}

pub ordered_filter : (R : ℕ → ℕ → Type 0) (p : ℕ → Bool) (xs : List ℕ) → Ordered R xs → Ordered R (filter p xs)
ordered_filter R p [] h = tt
ordered_filter R p (x ∷ xs) h =
    elim (cases_Bool (p x))
    [ inl e ↦ rw e (all_filter (R x) p xs h.0, ordered_filter R p xs h.1) | inr e ↦ rw e (ordered_filter R p xs h.1) ]

range_above : (m a n : ℕ) → m < a → AllByRecursion (λ s. m < s) (range_with_len a n)
range_above m a zero h = tt
range_above m a (suc n) h = (h, range_above m (a + 1) n (omega arith))

pub range_ordered : (a n : ℕ) → Ordered (λ s t. s < t) (range_with_len a n)
range_ordered a zero = tt
range_ordered a (suc n) = (range_above a (a + 1) n (omega arith), range_ordered (a + 1) n)

pub member_filter : (p : ℕ → Bool) (xs : List ℕ) (k : ℕ) → k < length xs → p (get_or xs k 0) ≡ true →
    list_any (eqb (get_or xs k 0)) (filter p xs) ≡ true
member_filter p [] k lt h = absurd (omega arith)
member_filter p (x ∷ xs) zero lt h = rw h (or_left (eqb x x) (list_any (eqb x) (filter p xs)) (eq-eqb x x refl))
member_filter p (x ∷ xs) (suc k) lt h =
    let later = member_filter p xs k (omega arith) h in
    let y = get_or xs k 0 in
    elim (cases_Bool (p x))
    [ inl e ↦ rw e (or_right (eqb y x) (list_any (eqb y) (filter p xs)) later) | inr e ↦ rw e later ]

-- the sides with a pair: their pair, their order, and that all are listed
pub with_pair : (mesh : Mesh) (p : ℕ × ℕ) (k : ℕ) → k < length (sides_with mesh p) →
    pair_at mesh (get_or (sides_with mesh p) k 0) ≡ p
with_pair mesh p k lt =
    let test = λ (s : ℕ). pair_eq p (pair_at mesh s) in
    sym (pair_eq-true p (pair_at mesh (get_or (sides_with mesh p) k 0))
    (All-from_recursion (λ s. test s ≡ true) (sides_with mesh p) (passing test (range_with_len 0 (side_count mesh)))
    k 0 lt))

first_two : (xs : List ℕ) → 2 ≤ length xs → Ordered (λ s t. s < t) xs → get_or xs 0 0 < get_or xs 1 0
first_two [] l h = absurd (omega arith)
first_two (x ∷ []) l h = absurd (omega arith)
first_two (x ∷ y ∷ xs) l h = h.0.0

pub with_rising : (mesh : Mesh) (p : ℕ × ℕ) → 2 ≤ length (sides_with mesh p) →
    get_or (sides_with mesh p) 0 0 < get_or (sides_with mesh p) 1 0
with_rising mesh p l =
    first_two (sides_with mesh p) l
    (ordered_filter (λ s t. s < t) (λ s. pair_eq p (pair_at mesh s)) (range_with_len 0 (side_count mesh))
    (range_ordered 0 (side_count mesh)))

of_two : (xs : List ℕ) (s : ℕ) → length xs ≡ 2 → list_any (eqb s) xs ≡ true → (s ≡ get_or xs 0 0) ⊎ (s ≡ get_or xs 1 0)
of_two xs s two h =
    let r = list_any_at (eqb s) xs 0 h in
    let is = eqb-true s (get_or xs r.0 0) r.2 in
    elim (cases_eq r.0 0) [
      | inl e ↦ inl (is ∙ ap (λ k. get_or xs k 0) e)
      | inr ne ↦ let one : r.0 ≡ 1 = omega (arith, r.1) in inr (is ∙ ap (λ k. get_or xs k 0) one)
    ]

pub with_all : (mesh : Mesh) (s : ℕ) → s < side_count mesh → length (sides_with mesh (pair_at mesh s)) ≡ 2 →
    (s ≡ get_or (sides_with mesh (pair_at mesh s)) 0 0) ⊎ (s ≡ get_or (sides_with mesh (pair_at mesh s)) 1 0)
with_all mesh s lt two =
    let n = side_count mesh in
    let p = pair_at mesh s in
    let all = range_with_len 0 n in
    let z : 0 + s ≡ s = omega arith in
    let here : get_or all s 0 ≡ s = get_or-range_with_len 0 n s 0 lt ∙ z in
    let m = member_filter (λ t. pair_eq p (pair_at mesh t)) all s (omega (arith, length-range_with_len 0 n))
    (ap (λ t. pair_eq p (pair_at mesh t)) here ∙ pair_eq-self p) in
    of_two (sides_with mesh p) s two (ap (λ t. list_any (eqb t) (sides_with mesh p)) (sym here) ∙ m)

-- a side's mate by the row of its edge
pub mate_by_row : (mesh : Mesh) (mate both : List ℕ) (s e : ℕ) → s < side_count mesh → ends mesh e ≡ pair_at mesh s →
    both ≡ sides_with mesh (ends mesh e) → length both ≡ 2 →
    get_or both 0 0 < side_count mesh → get_or both 1 0 < side_count mesh →
    get_or mate (get_or both 0 0) 0 ≡ get_or both 1 0 → get_or mate (get_or both 1 0) 0 ≡ get_or both 0 0 →
    IsMate mesh s (get_or mate s 0)
mate_by_row mesh mate both s e lt at is two in0 in1 first second =
    let p = pair_at mesh s in
    let own : both ≡ sides_with mesh p = is ∙ ap (sides_with mesh) at in
    let size : length (sides_with mesh p) ≡ 2 = sym (ap length own) ∙ two in
    let rising : get_or both 0 0 < get_or both 1 0 = rw own (with_rising mesh p (omega arith)) in
    let pair0 : pair_at mesh (get_or both 0 0) ≡ p = rw own (with_pair mesh p 0 (omega arith)) in
    let pair1 : pair_at mesh (get_or both 1 0) ≡ p = rw own (with_pair mesh p 1 (omega arith)) in
    elim (with_all mesh s lt size) [
      | inl e0 ↦
          let s0 : s ≡ get_or both 0 0 = e0 ∙ ap (λ (xs : List ℕ). get_or xs 0 0) (sym own) in
          let m : get_or mate s 0 ≡ get_or both 1 0 = ap (λ t. get_or mate t 0) s0 ∙ first in
          record { is_side = omega arith; other = λ same. omega arith; same_edge = ap (pair_at mesh) m ∙ pair1 }
      | inr e1 ↦
          let s1 : s ≡ get_or both 1 0 = e1 ∙ ap (λ (xs : List ℕ). get_or xs 1 0) (sym own) in
          let m : get_or mate s 0 ≡ get_or both 0 0 = ap (λ t. get_or mate t 0) s1 ∙ second in
          record { is_side = omega arith; other = λ same. omega arith; same_edge = ap (pair_at mesh) m ∙ pair0 }
    ]

module _ (mesh : Mesh) (is_mesh : IsMesh mesh) (rows : List (List ℕ)) (face_of edge_of : List ℕ)
    (rows_are : rows ≡ map (sides_with mesh) (edges mesh)) (faces_are : face_of ≡ owners 0 mesh.faces)
    (numbers : AreEdgeNumbers mesh edge_of) (two : HasTwoFaces mesh) where
  pub row_two : (e : ℕ) → e < edge_count mesh → length (get_or rows e []) ≡ 2
  row_two e lt = sym (row_degree mesh is_mesh rows face_of rows_are faces_are e lt) ∙ two e lt

  pub row_differs : (e : ℕ) → e < edge_count mesh → get_or (get_or rows e []) 0 0 ≢ get_or (get_or rows e []) 1 0
  row_differs e lt same =
      let is = row_is mesh is_mesh rows face_of rows_are faces_are e lt in
      let size = sym (ap length is) ∙ row_two e lt in
      let rising : get_or (get_or rows e []) 0 0 < get_or (get_or rows e []) 1 0 =
      rw is (with_rising mesh (ends mesh e) (omega arith)) in
      omega arith

  pub row_keyed : (e k : ℕ) → e < edge_count mesh → k < 2 → get_or edge_of (get_or (get_or rows e []) k 0) 0 ≡ e
  row_keyed e k lt few =
      let is = row_is mesh is_mesh rows face_of rows_are faces_are e lt in
      let n = row_two e lt in
      let s = get_or (get_or rows e []) k 0 in
      let in' : s < side_count mesh = row_side mesh is_mesh rows face_of rows_are faces_are e k lt (omega arith) in
      let m = ap length is in
      let pair : pair_at mesh s ≡ ends mesh e = rw is (with_pair mesh (ends mesh e) k (omega arith)) in
      let f = get_or edge_of s 0 in
      sym (place_of-ends mesh f (numbers.below s in')) ∙ ap (λ p. place_of p (edges mesh)) (numbers.same s in' ∙ pair)
      ∙ place_of-ends mesh e lt

  pub mates_from : (mate : List ℕ) → length mate ≡ side_count mesh →
      ((e : ℕ) → e < length rows → get_or mate (get_or (get_or rows e []) 0 0) 0 ≡ get_or (get_or rows e []) 1 0) →
      ((e : ℕ) → e < length rows → get_or mate (get_or (get_or rows e []) 1 0) 0 ≡ get_or (get_or rows e []) 0 0) →
      AreAllMates mesh mate
  mates_from mate size first second = record {
    size = size;
    mates = λ s lt.
        let e = get_or edge_of s 0 in
        let below : e < edge_count mesh = numbers.below s lt in
        let n = rows_len mesh is_mesh rows face_of rows_are faces_are in
        let m = row_two e below in
        mate_by_row mesh mate (get_or rows e []) s e lt (numbers.same s lt)
        (row_is mesh is_mesh rows face_of rows_are faces_are e below) m
        (row_side mesh is_mesh rows face_of rows_are faces_are e 0 below (omega arith))
        (row_side mesh is_mesh rows face_of rows_are faces_are e 1 below (omega arith)) (first e (omega arith))
        (second e (omega arith));
  }
